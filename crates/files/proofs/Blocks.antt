-- Laws of a file's blocks, as the loop of `block_at` meets them: from the start of a line on, the first tag that is found is that of the next
-- block, and the lines on which it stands are passed over.
use mathlib.Core.Logic.{◌⊎◌, inl, inr, ⊎_elim}
use mathlib.Core.Path.{◌≡◌, refl, ap, sym, subst, ◌∙◌}
use mathlib.Core.Bool.{Bool, true, false, cond}
use mathlib.Core.List.{List, [], ◌∷◌, ◌++◌}
use Prim.Native.Nat.{ℕ, zero, suc, ◌+◌, ◌-◌, ◌≤◌, ◌<◌}
use native.Mathlib.Decide.{dec_lt}
use native.Mathlib.Omega.{arith}
use lib.Dec.{leb}
use lib.ListN.{length, get_or, drop, length-drop, drop_of_length-le}
use lib.Seq.{drop-drop, get_or-drop}
use borrow.Author.Tests.{le-leb, lt-leb}
use Rattle.definitions.specs.Lists.{up_to, through, only_if}
use Rattle.definitions.specs.Lines.{trim}
use Rattle.definitions.specs.SmFile.{Tag, is_tagged, tag_of, notes_tag, block_text, block_end, starts_block, blocks_from}
use Rattle.definitions.proofs.Bools.{and-false}
use Rattle.definitions.proofs.Lists.{starts_with-length}
use Rattle.definitions.proofs.SmBlocks.{end-within}
use Rattle.definitions.proofs.ChartRows.{trim-short}
use Rattle.lines.specs.Lines.{first_line, lines_from}
use Rattle.lines.proofs.Lines.{lines_next, lines_end, line-within}
use Rattle.files.specs.Tags.{first_tag}
use Rattle.files.specs.Sm.{line_past_block}
use Rattle.std.specs.Prelude.{Some, None}
use Rattle.files.proofs.Words.{through-ends, up_to-drop, up_to-byte}
use Rattle.files.proofs.Tags.{tag-none, tag-here, tag-next}

module _ (file : List ℕ) where
  -- the line at a place, where the next one starts, and the blocks from a place on
  abbrev line_at : ℕ → List ℕ
  line_at at = first_line (drop at file)

  abbrev pub next_at : ℕ → ℕ
  next_at at = at + length (line_at at) + 1

  abbrev pub from : ℕ → ℕ → List Tag
  from past at = blocks_from file past at (lines_from file at)

  -- a line that starts no block
  step-none : (past at : ℕ) → at ≤ length file → starts_block past at (line_at at) ≡ false → from past at ≡ from past (next_at at)
  unfolding blocks_from
  step-none past at h e = rw (lines_next file at h) (simp e)

  -- a line inside a block
  step-inside : (past at : ℕ) → at ≤ length file → at < past → from past at ≡ from past (next_at at)
  unfolding starts_block
  step-inside past at h w = step-none past at h (simp (lt-leb past at w))

  -- a line without the tag
  step_other : (past at : ℕ) → at ≤ length file → is_tagged notes_tag (line_at at) ≡ false → from past at ≡ from past (next_at at)
  unfolding starts_block
  step_other past at h e = step-none past at h (rw e (and-false (leb past at)))

  -- a line that starts a block
  step_block : (past at : ℕ) → at ≤ length file → past ≤ at → is_tagged notes_tag (line_at at) ≡ true
      → from past at ≡ tag_of notes_tag at (line_at at) ∷ from (block_end file (tag_of notes_tag at (line_at at))) (next_at at)
  unfolding blocks_from starts_block
  step_block past at h w e = rw (lines_next file at h) (simp (le-leb past at w, e))

  -- past the end
  pub step_end : (past at : ℕ) → length file < at → from past at ≡ []
  unfolding blocks_from
  step_end past at h = rw (lines_end file at h)

  -- where the blocks before a line end does not matter
  pub any-past : (past at : ℕ) (lines : List (List ℕ)) → past ≤ at → blocks_from file past at lines ≡ blocks_from file 0 at lines
  unfolding blocks_from starts_block
  any-past past at [] h = refl
  any-past past at (l ∷ lines) h =
      simp (le-leb past at h, le-leb 0 at (omega arith))
      (go (is_tagged notes_tag l) (any-past past (at + length l + 1) lines (omega arith)))
    where
      go : (t : Bool) → blocks_from file past (at + length l + 1) lines ≡ blocks_from file 0 (at + length l + 1) lines
          → only_if t (tag_of notes_tag at l ∷ []) ++ blocks_from file (cond t (block_end file (tag_of notes_tag at l)) past) (at + length l + 1) lines
          ≡ only_if t (tag_of notes_tag at l ∷ []) ++ blocks_from file (cond t (block_end file (tag_of notes_tag at l)) 0) (at + length l + 1) lines
      go true ih = refl
      go false ih = ih

  -- from a place on a line on, the line ends where it did
  line-rest : (at e : ℕ) → at ≤ e → e ≤ at + length (line_at at) → next_at e ≡ next_at at
  unfolding first_line
  line-rest at e h w =
      let d : at + (e - at) ≡ e = omega arith in
      let same : drop (e - at) (drop at file) ≡ drop e file = drop-drop (e - at) at file ∙ ap (λ n. drop n file) d in
      let u = up_to-drop 10 (drop at file) (e - at) (omega arith) in
      omega (arith, u, ap (λ l. length (up_to 10 l)) same)

  -- what stands before a line that is not the first is byte 10
  before-line : (at : ℕ) → at + length (line_at at) < length file → get_or file (at + length (line_at at)) 0 ≡ 10
  unfolding first_line
  before-line at h = sym (get_or-drop at file (length (up_to 10 (drop at file))) 0) ∙ up_to-byte 10 (drop at file) (omega (arith, length-drop at file))

  -- an empty line has no tag
  none-tagged : is_tagged notes_tag (first_line []) ≡ false
  unfolding is_tagged notes_tag first_line up_to
  none-tagged = refl

  -- The lines that begin before e, where the block ends on whose lines they stand, start none; nor does one at e, which is past a `;` or the
  -- file's end. n bounds what is left of the file.
  pub skip : (e n at : ℕ) → length file < at + n → at < e → e ≤ length file → (e ≡ length file) ⊎ (get_or file (e - 1) 0 ≡ 10 → ⊥) → from e at ≡ from 0 (next_at e)
  skip e zero at b h w last = absurd (omega arith)
  skip e (suc n) at b h w last =
      step-inside e at (omega arith) h
      ∙ elim (dec_lt e (next_at at)) [
        | yes before ↦ any-past e (next_at at) (lines_from file (next_at at)) (omega arith) ∙ sym (ap (from 0) (line-rest at e (omega arith) (omega arith)))
        | no after ↦ elim (dec_lt (next_at at) e) [
          | yes more ↦ skip e n (next_at at) (omega arith) more w last
          | no same ↦
              let eq : next_at at ≡ e = omega arith in
              let byte : e - 1 ≡ at + length (line_at at) = omega arith in
              ap (from e) eq ∙ ⊎_elim
              (λ all.
              let past : length file ≤ e = omega (arith, all) in
              let empty : drop e file ≡ [] = drop_of_length-le file past in
              step_other e e w (rw empty none-tagged)
              ∙ any-past e (next_at e) (lines_from file (next_at e)) (omega arith))
              (λ other. absurd (other (ap (λ k. get_or file k 0) byte ∙ before-line at (omega arith))))
              last
        ]
      ]

  -- What is known of the first tag from `off` on.
  pub record TagMet (off : ℕ) (t : Tag) : Type 0 where
    pub within : t.line ≤ length file
    pub tagged : is_tagged notes_tag (line_at t.line) ≡ true
    pub is : t ≡ tag_of notes_tag t.line (line_at t.line)
    pub starts : from 0 off ≡ from 0 t.line

  -- from the line at `off`, and the tags after it
  met : (off : ℕ) (t : Tag) → off ≤ length file → (b : Bool) → is_tagged notes_tag (line_at off) ≡ b → first_tag notes_tag off (lines_from file off) ≡ Some t
      → (first_tag notes_tag (next_at off) (lines_from file (next_at off)) ≡ Some t → TagMet (next_at off) t) → TagMet off t
  unfolding is_tagged tag_of
  met off t h true tagged e later =
      let here = tag-here notes_tag file off (line_at off) (trim (line_at off)) h refl refl tagged in
      let is : tag_of notes_tag off (line_at off) ≡ t = cc in
      subst (TagMet off) is (record { within = h; tagged = tagged; is = refl; starts = refl })
  met off t h false other e later =
      let m = later (sym (tag-next notes_tag file off (line_at off) (trim (line_at off)) h refl refl other) ∙ e) in
      record {
        within = m.within;
        tagged = m.tagged;
        is = m.is;
        starts = step_other 0 off h other ∙ m.starts;
      }

  -- the line that it stands on is met first, and no line before it starts a block
  tag_met : (n off : ℕ) (t : Tag) → length file < off + n → first_tag notes_tag off (lines_from file off) ≡ Some t → TagMet off t
  tag_met zero off t b e =
      let none = tag-none notes_tag file off (omega arith) in
      let z : ◌≡◌ {A = ℕ} 0 1 = cc in
      absurd (omega arith)
  tag_met (suc n) off t b e = elim (dec_lt (length file) off) [
    | yes past ↦
        let none = tag-none notes_tag file off past in
        let z : ◌≡◌ {A = ℕ} 0 1 = cc in
        absurd (omega arith)
    | no not ↦
        let within : off ≤ length file = omega arith in
        met off t within (is_tagged notes_tag (line_at off)) refl e (tag_met n (next_at off) t (omega arith))
  ]

  -- a tag lies on its line
  tag_on_line : (t : Tag) {off : ℕ} → TagMet off t → (t.line < t.end) × (t.end ≤ length file)
  unfolding tag_of notes_tag is_tagged
  tag_on_line t m =
      let l = line_at t.line in
      let place : t.end ≡ t.line + (length l - length (trim l)) + 7 = ap (λ (u : Tag). u.end) m.is in
      let long = starts_with-length notes_tag (trim l) m.tagged in
      (omega arith, omega (arith, long, trim-short l, line-within file t.line m.within))

  -- a block ends with a `;` or the file
  last_byte : (t : Tag) → t.end ≤ length file → (block_end file t ≡ length file) ⊎ (get_or file (block_end file t - 1) 0 ≡ 10 → ⊥)
  unfolding block_end block_text
  last_byte t h = ⊎_elim
      (λ all. inl (omega (arith, all, length-drop t.end file)))
      (λ some. inr (λ newline.
      let place : t.end + length (through 59 (drop t.end file)) - 1 ≡ t.end + (length (through 59 (drop t.end file)) - 1) = omega (arith, some.0) in
      let both : ◌≡◌ {A = ℕ} 59 10 = sym some.1 ∙ get_or-drop t.end file (length (through 59 (drop t.end file)) - 1) 0 ∙ sym (ap (λ k. get_or file k 0) place) ∙ newline in
      omega (arith, both)))
      (through-ends 59 (drop t.end file))

  -- a block ends after its tag
  end_after : (t : Tag) → t.end ≤ block_end file t
  unfolding block_end
  end_after t = omega arith

  -- the blocks from `off` on: the one whose tag is found, and those after its lines
  pub block_met : (off : ℕ) (t : Tag) → first_tag notes_tag off (lines_from file off) ≡ Some t → from 0 off ≡ t ∷ from 0 (line_past_block file t)
  unfolding line_past_block
  block_met off t e =
      let m = tag_met (suc (length file)) off t (omega arith) e in
      let p = tag_on_line t m in
      let ends : block_end file t ≤ length file = end-within file t p.1 in
      let after : t.end ≤ block_end file t = end_after t in
      let inside = sym (step-inside (block_end file t) t.line m.within (omega (arith, p.0))) in
      m.starts
      ∙ step_block 0 t.line m.within (omega arith) m.tagged
      ∙ ap (λ (u : Tag). u ∷ from (block_end file u) (next_at t.line)) (sym m.is)
      ∙ ap (λ (l : List Tag). t ∷ l) (inside ∙ skip (block_end file t) (suc (length file)) t.line (omega arith) (omega (arith, p.0)) ends (last_byte t p.1))

  unmet : (off : ℕ) → off ≤ length file → (b : Bool) → is_tagged notes_tag (line_at off) ≡ b → first_tag notes_tag off (lines_from file off) ≡ None
      → (first_tag notes_tag (next_at off) (lines_from file (next_at off)) ≡ None → from 0 (next_at off) ≡ []) → from 0 off ≡ []
  unfolding is_tagged
  unmet off h true tagged e later =
      let here = tag-here notes_tag file off (line_at off) (trim (line_at off)) h refl refl tagged in
      let z : ◌≡◌ {A = ℕ} 0 1 = cc in
      absurd (omega arith)
  unmet off h false other e later =
      step_other 0 off h other ∙ later (sym (tag-next notes_tag file off (line_at off) (trim (line_at off)) h refl refl other) ∙ e)

  -- where no tag is found there is no block
  pub none_met : (n off : ℕ) → length file < off + n → first_tag notes_tag off (lines_from file off) ≡ None → from 0 off ≡ []
  none_met zero off b e = step_end 0 off (omega arith)
  none_met (suc n) off b e = elim (dec_lt (length file) off) [
    | yes past ↦ step_end 0 off past
    | no not ↦
        let within : off ≤ length file = omega arith in
        unmet off within (is_tagged notes_tag (line_at off)) refl e (none_met n (next_at off) (omega arith))
  ]
