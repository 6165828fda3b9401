-- Laws of `first_tag`, as the loop of `next_tag` meets the lines of a file.
use mathlib.Core.Path.{◌≡◌}
use mathlib.Core.Bool.{true, false}
use mathlib.Core.List.{List}
use Prim.Native.Nat.{ℕ, ◌+◌, ◌-◌, ◌≤◌, ◌<◌}
use lib.ListN.{length, drop}
use Rattle.std.specs.List.{starts_with}
use Rattle.definitions.specs.Lines.{trim}
use Rattle.definitions.specs.SmFile.{Tag, is_tagged, tag_of}
use Rattle.lines.specs.Lines.{first_line, lines_from}
use Rattle.lines.proofs.Lines.{lines_next, lines_end}
use Rattle.files.specs.Tags.{first_tag}
use Rattle.std.specs.Prelude.{Some, None, nat_eq}

module _ (word file : List ℕ) (off : ℕ) where
  -- no line is left
  pub tag-none : length file < off → first_tag word off (lines_from file off) ≡ None
  unfolding first_tag
  tag-none h = rw (lines_end file off h)

  module _ (raw line : List ℕ) (within : off ≤ length file) (er : raw ≡ first_line (drop off file)) (el : line ≡ trim raw) where
    -- the line at `off` begins with the word
    pub tag-here : starts_with nat_eq line word ≡ true → first_tag word off (lines_from file off) ≡ Some (record { line = off; end = off + (length raw - length line) + length word })
    unfolding first_tag is_tagged tag_of
    tag-here e =
        let t : starts_with nat_eq (trim (first_line (drop off file))) word ≡ true = rw (el, er) at e in
        rw (el, er, lines_next file off within) (simp t)

    -- it does not
    pub tag-next : starts_with nat_eq line word ≡ false → first_tag word off (lines_from file off) ≡ first_tag word (off + length raw + 1) (lines_from file (off + length raw + 1))
    unfolding first_tag is_tagged
    tag-next e =
        let t : starts_with nat_eq (trim (first_line (drop off file))) word ≡ false = rw (el, er) at e in
        rw (er, lines_next file off within) (simp t)

-- a tag by its places in a text of which this is the part from p on
abbrev pub moved : ℕ → Tag → Tag
moved p t = record { line = p + t.line; end = p + t.end }
