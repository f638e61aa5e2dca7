-- What a sheet tells of a line. Assumes nothing.
use Rattle.std.specs.Prelude.{ℕ, List}
use Rattle.scorer.specs.Meaning.{Meaning}
use Rattle.sheet_file.specs.Fields.{width, count, setwidth, node_entry, exact_at, bound_at}

abbrev pub sheet_meaning : List ℕ → Meaning
sheet_meaning sheet = record {
  width = width sheet;
  count = count sheet;
  setwidth = setwidth sheet;
  bound = λ x t. bound_at sheet (node_entry sheet x t);
  exact = λ x t. exact_at sheet (node_entry sheet x t);
}
