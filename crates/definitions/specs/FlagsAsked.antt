-- Specification, Judged tally: what a missing flag says of the tally by flags. `flags-as-asked` in proofs/FlagsAsked.antt proves it.
use Rattle.std.specs.Prelude.{◌≡◌, true, List, [], ◌++◌, ℕ, ◌<◌, length, replicate}
use Rattle.definitions.specs.Tally.{empty_stats}
use Rattle.definitions.specs.ReadBack.{rows_read_back}
use Rattle.definitions.specs.Judged.{judged_at, judged_tally, flagged_tally}
use Rattle.definitions.specs.declared.ArrowStats.{ArrowStats}

-- it has no arrows, steps, jumps or hands, and no mines, holds, rolls, lifts and keysounds
abbrev pub only_fakes : ArrowStats → ArrowStats
only_fakes t = record empty_stats { fakes = t.fakes }

-- Of every text and every list of flags.
pub record FlagsAsAsked (L : ℕ) (flags text : List ℕ) : Type 0 where
  -- "a missing flag is a flag 0"
  pub padded : (n : ℕ) → flagged_tally L (flags ++ replicate n 0) text ≡ flagged_tally L flags text
  -- "flags that say the same of each row of the text give the same tally"
  pub as_flags : (others : List ℕ) → ((i : ℕ) → i < length (rows_read_back L text) → judged_at others i ≡ judged_at flags i)
      → flagged_tally L others text ≡ flagged_tally L flags text
  -- "where each row has a flag, and none is 0, it is the tally with every row judged"
  pub all : ((i : ℕ) → i < length (rows_read_back L text) → judged_at flags i ≡ true) → flagged_tally L flags text ≡ judged_tally L text
  -- "without flags it has fakes alone"
  pub none : flagged_tally L [] text ≡ only_fakes (flagged_tally L [] text)

unfoldable pub FlagsAsked : Type 0
FlagsAsked = (L : ℕ) (flags text : List ℕ) → FlagsAsAsked L flags text
