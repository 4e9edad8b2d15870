-- How many line writes and word writes a list has, by its number of steps.
use Rattle.std.specs.Prelude.{ℕ, ◌+◌, ◌-◌, cond, eqb}
use Rattle.writing.specs.declared.Made.{Made}

abbrev pub counts : ℕ → ℕ → ℕ → Made
counts n lines words = record { steps = n; line_writes = record { 0 = lines }; word_writes = record { 0 = words } }

abbrev pub three_steps : Made
three_steps = counts 3 1 1

-- a plain put: 5 steps into line 0, else at least 8; each line write has its fence
abbrev pub plain_lines : ℕ → ℕ
plain_lines n = cond (eqb n 5) 1 2

-- a put into a full leaf: 42 steps of the split, 6 of them line writes and 2 fences, and the plain put that may follow
abbrev pub full_lines : ℕ → ℕ
full_lines n = cond (eqb n 42) 6 (6 + plain_lines (n - 42))
