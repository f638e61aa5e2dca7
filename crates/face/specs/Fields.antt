-- Where a face's bytes hold what. Assumes nothing.
use Rattle.std.specs.Prelude.{ℕ, ◌+◌, ◌*◌, Bool, ◌&&◌, List, length, ℤ, pos, int_lt, nat_le, sum_by}
use Rattle.std.specs.List.{range_with_len}
use Rattle.octets.specs.Numbers.{byte_at, u16_at, u32_at, i16_at}

-- the head: how many templates and levels, and the rows of a box
abbrev pub count : List ℕ → ℕ
count face = u16_at face 0

abbrev pub levels : List ℕ → ℕ
levels face = byte_at face 2

abbrev pub height : List ℕ → ℕ
height face = byte_at face 3

-- a level: what a pixel over black earns, and what any pixel does
abbrev pub level_start : ℕ → ℕ
level_start l = 4 + 4 * l

abbrev pub gamma : List ℕ → ℕ → ℤ
gamma face l = i16_at face (level_start l)

-- a level whose pixels are to be white
abbrev pub write_white : List ℕ → ℕ → Bool
write_white face l = int_lt (gamma face l) (pos 0)

abbrev pub beta : List ℕ → ℕ → ℤ
beta face l = i16_at face (level_start l + 2)

-- a template, of eight bytes
abbrev pub template_start : List ℕ → ℕ → ℕ
template_start face t = 4 + 4 * levels face + 8 * t

abbrev pub name : List ℕ → ℕ → ℕ
name face t = byte_at face (template_start face t)

abbrev pub setwidth : List ℕ → ℕ → ℕ
setwidth face t = byte_at face (template_start face t + 1)

abbrev pub box_width : List ℕ → ℕ → ℕ
box_width face t = byte_at face (template_start face t + 2)

abbrev pub prior : List ℕ → ℕ → ℤ
prior face t = i16_at face (template_start face t + 4)

-- the columns of all boxes follow the last template, one word for each level of a column
abbrev pub word_start : List ℕ → ℕ → ℕ
word_start face j = template_start face (count face) + 4 * j

abbrev pub word_at : List ℕ → ℕ → ℕ
word_at face j = u32_at face (word_start face j)

-- how many columns the boxes of the first t templates have together
unfoldable pub columns_before : List ℕ → ℕ → ℕ
columns_before face t = sum_by (box_width face) (range_with_len 0 t)

-- where a column begins, where columns are counted over all templates; and where those of template t do
abbrev pub column_start : List ℕ → ℕ → ℕ
column_start face column = word_start face (levels face * column)

abbrev pub columns_start : List ℕ → ℕ → ℕ
columns_start face t = column_start face (columns_before face t)

-- the columns from first to before end are there
abbrev pub columns_there : List ℕ → ℕ → ℕ → Bool
columns_there face first end = nat_le first end && nat_le (column_start face end) (length face)
