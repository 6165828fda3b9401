-- What an entry leaves, by the number that it told: 0 is told of an accepted call alone.
use Rattle.std.specs.Prelude.{if◌then◌else◌, ◌==◌, List, ℕ, length}
use Rattle.definitions.specs.Lists.{padded}

-- In a slice that held `old`: the answer and zeros past it, or all as it was. "A refused call writes nothing." "After an accepted call every entry
-- past the answer in a slice lent for writing is 0"
abbrev pub leaves_by : {A : Type 0} → A → ℕ → List A → List A → List A
leaves_by zero number answer old = if number == 0 then padded zero (length old) answer else old
