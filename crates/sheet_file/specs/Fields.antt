-- Where a sheet's bytes hold what. Assumes nothing.
use Rattle.std.specs.Prelude.{ℕ, ◌+◌, ◌*◌, List, ℤ}
use Rattle.octets.specs.Numbers.{byte_at, u16_at, i32_at}

-- the head: how many columns and templates
abbrev pub width : List ℕ → ℕ
width sheet = u16_at sheet 0

abbrev pub count : List ℕ → ℕ
count sheet = u16_at sheet 2

-- a setwidth of one byte for each template
abbrev pub setwidth_start : ℕ → ℕ
setwidth_start t = 4 + t

abbrev pub setwidth : List ℕ → ℕ → ℕ
setwidth sheet t = byte_at sheet (setwidth_start t)

-- entries of eight bytes follow the setwidths, template by template, one for each column
abbrev pub entries : List ℕ → ℕ
entries sheet = count sheet * width sheet

-- the entry of column x and template t
abbrev pub node_entry : List ℕ → ℕ → ℕ → ℕ
node_entry sheet x t = t * width sheet + x

abbrev pub entry_start : List ℕ → ℕ → ℕ
entry_start sheet j = 4 + count sheet + 8 * j

-- the two scores of entry j
abbrev pub exact_at : List ℕ → ℕ → ℤ
exact_at sheet j = i32_at sheet (entry_start sheet j)

abbrev pub bound_at : List ℕ → ℕ → ℤ
bound_at sheet j = i32_at sheet (entry_start sheet j + 4)
