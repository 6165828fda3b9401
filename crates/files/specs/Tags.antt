-- What follows a mark or a tag in a text.
use Rattle.std.specs.Prelude.{if◌then◌else◌, List, [], ◌∷◌, ℕ, ◌+◌, ◌==◌, length, drop, Option, Some, None, option_map}
use Rattle.definitions.specs.Lines.{cut}
use Rattle.definitions.specs.SmFile.{Tag, is_tagged, tag_of}

-- what follows the first b in a list, if it has one
abbrev pub after_first : ℕ → List ℕ → Option (List ℕ)
after_first b [] = None
after_first b (x ∷ s) = if x == b then Some s else after_first b s

-- the tag of the first of some lines that begins with it; the first of them begins at `at`
unfoldable pub first_tag : List ℕ → ℕ → List (List ℕ) → Option Tag
first_tag word at [] = None
first_tag word at (line ∷ lines) = if is_tagged word line then Some (tag_of word at line) else first_tag word (at + length line + 1) lines

-- what follows the first such tag in a text
unfoldable pub after_tag : List ℕ → List ℕ → Option (List ℕ)
after_tag word text = option_map (λ t. drop t.end text) (first_tag word 0 (cut text))
