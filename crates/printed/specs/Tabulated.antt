-- What the tables of a face hold. Assumes nothing.
use Rattle.std.specs.Prelude.{◌≡◌, ℕ, List, map, vec_items}
use Rattle.std.specs.List.{range_with_len}
use Rattle.face.specs.Fields.{count, setwidth, box_width, columns_before}
use Rattle.matching.specs.Printed.{base}
use Rattle.printed.specs.Tables.{weights_of, face_values}
use Rattle.printed.specs.declared.tables.Tables.{Tables}
use Rattle.printed.specs.declared.tables.Template.{Template}

abbrev pub template_of : List ℕ → ℕ → Template
template_of face t = record { setwidth = setwidth face t; width = box_width face t; first = columns_before face t; base = base face t }

abbrev pub face_templates : List ℕ → List Template
face_templates face = map (template_of face) (range_with_len 0 (count face))

pub record Tabulated (face : List ℕ) (tables : Tables) : Type 0 where
  pub weights : vec_items tables.weights ≡ weights_of face
  pub templates : vec_items tables.templates ≡ face_templates face
  pub values : vec_items tables.values ≡ face_values face
