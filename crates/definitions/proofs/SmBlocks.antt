-- The charts inside an SM file: the theorems of specs/SmBlocks.antt.
use mathlib.Core.Path.{◌≡◌, refl, sym, ap, ◌∙◌}
use mathlib.Core.Bool.{Bool, true, false, cond}
use mathlib.Core.List.{List, [], ◌∷◌, ◌++◌}
use Prim.Native.Nat.{ℕ, zero, suc, ◌+◌, ◌≤◌, ◌<◌}
use native.Mathlib.Decide.{dec_lt}
use native.Mathlib.Omega.{arith}
use borrow.Author.Tests.{leb-true, le-leb, le-ltb}
use lib.Dec.{leb, ltb}
use lib.ListN.{length, drop, get_or, length-drop, get_or-eq_default}
use lib.Seq.{drop-drop, get_or-drop}
use Rattle.std.specs.Prelude.{is_none}
use Rattle.definitions.specs.Sizes.{most_bytes}
use Rattle.definitions.specs.Lists.{only_if, after}
use Rattle.definitions.specs.Lines.{cut, trim}
use Rattle.definitions.specs.Refusals.{refused_if, long_text, answered, number_told}
use Rattle.definitions.specs.declared.Refusal.TheVariants.{LongText, FewFields, OtherType, NoChart}
use Rattle.definitions.specs.SmFile.{Tag, SmPart, is_tagged, tag_of, notes_tag, block_text, block_end, starts_block, blocks_from, blocks, colons, data_of, sm_tag, sm_text, sm_lanes, sm_data, sm_start, sm_answer, sm_number}
use Rattle.definitions.specs.SmBlocks.{DataInFile, SemicolonLast, BlocksApart, LeastRefused}
use Rattle.definitions.proofs.Bools.{and_left, and_right}
use Rattle.definitions.proofs.Lists.{through-after, through-short, through-last, IsEnd, end-append, after_each-end, around-part, starts_with-length}
use Rattle.definitions.proofs.ChartRows.{trim-short, line_bytes, cut-bytes}

-- ---- Blocks
-- a block ends within the file if its tag does
pub end-within : (file : List ℕ) (t : Tag) → t.end ≤ length file → block_end file t ≤ length file
unfolding block_end block_text
end-within file t h = omega (arith, through-short 59 (drop t.end file), length-drop t.end file)

-- a block that starts at `past` or later and is a part of the file
record Placed (file : List ℕ) (past : ℕ) (t : Tag) : Type 0 where
  pub later : past ≤ t.line
  pub nonempty : t.line < block_end file t
  pub within : block_end file t ≤ length file

-- so is one that starts at a line of the file
placed : (file : List ℕ) (past at : ℕ) (line : List ℕ) → at + length line ≤ length file → starts_block past at line ≡ true → Placed file past (tag_of notes_tag at line)
unfolding starts_block is_tagged tag_of notes_tag block_end
placed file past at line h e =
    let long : 7 ≤ length (trim line) = starts_with-length notes_tag (trim line) (and_right (leb past at) (is_tagged notes_tag line) e) in
    record {
      later = leb-true past at (and_left (leb past at) (is_tagged notes_tag line) e);
      nonempty = omega arith;
      within = end-within file (tag_of notes_tag at line) (omega (arith, trim-short line));
    }

-- blocks each of which starts where the one before it ends, or later, the first at `past` or later
data Rising (file : List ℕ) : ℕ → List Tag → Type 0 where
  none : {past : ℕ} → Rising file past []
  next : {past : ℕ} {t : Tag} {ts : List Tag} → Placed file past t → Rising file (block_end file t) ts → Rising file past (t ∷ ts)

-- so are those of lines that end where the file does
rising-from : (file : List ℕ) (past at : ℕ) (lines : List (List ℕ)) → at + line_bytes lines ≡ length file + 1 → Rising file past (blocks_from file past at lines)
unfolding blocks_from
rising-from file past at [] h = none
rising-from file past at (line ∷ lines) h =
    go (starts_block past at line) refl (λ p. rising-from file p (at + length line + 1) lines (omega arith))
  where
    go : (b : Bool) → starts_block past at line ≡ b → ((p : ℕ) → Rising file p (blocks_from file p (at + length line + 1) lines))
        → Rising file past (only_if b (tag_of notes_tag at line ∷ []) ++ blocks_from file (cond b (block_end file (tag_of notes_tag at line)) past) (at + length line + 1) lines)
    go true e rest = next (placed file past at line (omega arith) e) (rest (block_end file (tag_of notes_tag at line)))
    go false e rest = rest past

rising : (file : List ℕ) → Rising file 0 (blocks file)
unfolding blocks
rising file = rising-from file 0 0 (cut file) (omega (arith, cut-bytes file))

-- what such blocks have, one by one and two by two
placed_at : {file : List ℕ} {past : ℕ} {ts : List Tag} (d : Tag) (i : ℕ) → Rising file past ts → i < length ts → Placed file past (get_or ts i d)
placed_at d i none h = absurd (omega arith)
placed_at d zero (next p r) h = p
placed_at d (suc i) (next p r) h =
    let q = placed_at d i r (omega arith) in
    record { later = omega (arith, p.later, p.nonempty, q.later); nonempty = q.nonempty; within = q.within }

apart-at : {file : List ℕ} {past : ℕ} {ts : List Tag} (d : Tag) (i j : ℕ) → Rising file past ts → i < j → j < length ts
    → block_end file (get_or ts i d) ≤ (get_or ts j d).line
apart-at d i j none h l = absurd (omega arith)
apart-at d i zero (next p r) h l = absurd (omega arith)
apart-at d zero (suc j) (next p r) h l = (placed_at d j r (omega arith)).later
apart-at d (suc i) (suc j) (next p r) h l = apart-at d i j r (omega arith) (omega arith)

-- the tag that is named where there is no block
abbrev no_tag : Tag
no_tag = record { line = 0; end = 0 }

pub blocks-apart : BlocksApart
unfolding BlocksApart sm_tag
blocks-apart file =
    record {
      nonempty = λ i h. omega (arith, (placed_at no_tag i (rising file) h).nonempty);
      within = λ i h. omega (arith, (placed_at no_tag i (rising file) h).within);
      rising = λ i j h l. omega (arith, apart-at no_tag i j (rising file) h l);
    }

-- ---- The data of a block
module _ (file : List ℕ) (k : ℕ) where
  data-end : IsEnd (sm_data file k) (sm_text file k)
  unfolding sm_data data_of
  data-end = after_each-end 58 5 (sm_text file k)

  -- it begins so far into the block's text
  start-at : sm_start file k ≡ (sm_tag file k).end + data-end.from
  unfolding sm_start
  start-at = omega (arith, data-end.size)

  -- it ends where its block does
  pub data-to-end : sm_start file k + length (sm_data file k) ≡ block_end file (sm_tag file k)
  unfolding block_end sm_text
  data-to-end = omega (arith, start-at, data-end.size)

  -- the file from its start on is the data and what follows the block
  pub data-then : sm_data file k ++ after 59 (drop (sm_tag file k).end file) ≡ drop (sm_start file k) file
  unfolding sm_text block_text
  data-then =
      end-append data-end (after 59 (drop (sm_tag file k).end file))
      ∙ ap (drop data-end.from) (through-after 59 (drop (sm_tag file k).end file))
      ∙ drop-drop data-end.from (sm_tag file k).end file
      ∙ ap (λ n. drop n file) (sym start-at)

  -- a block ends within the file, and so does what is named where there is no block k
  block_within : block_end file (sm_tag file k) ≤ length file
  unfolding sm_tag
  block_within =
      elim (dec_lt k (length (blocks file))) [
        | yes h ↦ (placed_at no_tag k (rising file) h).within
        | no h ↦
            let past : length (blocks file) ≤ k = omega arith in
            rw (get_or-eq_default (blocks file) no_tag past) (end-within file no_tag (omega arith))
      ]

pub data-in-file : DataInFile
unfolding DataInFile
data-in-file file k =
    record {
      parts = search (around-part file (sm_data file k) (after 59 (drop (sm_tag file k).end file)) (sm_start file k) (data-then file k));
      within = omega (arith, data-to-end file k, block_within file k);
    }

pub semicolon-last : SemicolonLast
unfolding SemicolonLast sm_text block_text
semicolon-last file k i h e =
    let d : IsEnd (sm_data file k) (sm_text file k) = data-end file k in
    let same : get_or (sm_data file k) i 0 ≡ get_or (sm_text file k) (d.from + i) 0 = ap (λ l. get_or l i 0) d.part ∙ get_or-drop d.from (sm_text file k) i 0 in
    through-last 59 (drop (sm_tag file k).end file) (d.from + i) (omega (arith, d.size)) (sym same ∙ e)

-- ---- The number that is answered, by its four tests
abbrev number_by : Bool → Bool → Bool → Bool → SmPart → ℕ
number_by a b c d p = number_told (answered (refused_if a LongText ∷ refused_if b NoChart ∷ refused_if c FewFields ∷ refused_if d OtherType ∷ []) p)

second-held : (a b c d : Bool) (p : SmPart) → number_by a b c d p ≡ 11 → b ≡ true
second-held true b c d p e = absurd (omega arith)
second-held false true c d p e = refl
second-held false false true d p e = absurd (omega arith)
second-held false false false true p e = absurd (omega arith)
second-held false false false false p e = absurd (omega arith)

module _ (file : List ℕ) (k : ℕ) where
  -- 11 is answered from the number of blocks on, and nowhere else
  from-blocks : length file ≤ most_bytes → length (blocks file) ≤ k → sm_number file k ≡ 11
  unfolding sm_answer long_text
  from-blocks short h = simp (le-ltb most_bytes (length file) short, le-leb (length (blocks file)) k h)

  only-from-blocks : sm_number file k ≡ 11 → length (blocks file) ≤ k
  unfolding sm_answer long_text
  only-from-blocks e =
      leb-true (length (blocks file)) k
      (second-held (ltb most_bytes (length file)) (leb (length (blocks file)) k) (ltb (colons (sm_text file k)) 5) (is_none (sm_lanes file k)) _ e)

pub least-refused : LeastRefused
unfolding LeastRefused
least-refused file short =
    record {
      answered = λ k h. from-blocks file k short (omega (arith, h));
      least = λ k e. omega (arith, only-from-blocks file k e);
    }
