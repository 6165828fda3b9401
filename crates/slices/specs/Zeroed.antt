-- What a filling function leaves.
use Rattle.std.specs.Prelude.{List, ◌++◌, ℕ, ◌-◌, length, take, replicate}

-- the first k entries, and z in every place after them
abbrev pub zeroed : {A : Type 0} → A → ℕ → List A → List A
zeroed z k l = take k l ++ replicate (length l - k) z
