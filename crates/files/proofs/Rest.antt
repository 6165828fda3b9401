-- What follows the line on which a file's first block ends has the other blocks: the theorem of specs/Rest.antt.
use mathlib.Core.Path.{◌≡◌, refl, ap, sym, ◌∙◌}
use mathlib.Core.Bool.{Bool, true, false, cond}
use mathlib.Core.List.{List, [], ◌∷◌, ◌++◌, map}
use Prim.Native.Nat.{ℕ, zero, suc, ◌+◌, ◌≤◌, ◌<◌}
use native.Mathlib.Decide.{dec_lt}
use native.Mathlib.Omega.{arith}
use lib.Dec.{leb}
use lib.ListN.{length, get_or, drop, length-drop, length-map, drop_of_length-le}
use lib.Seq.{drop-drop}
use borrow.Author.Tests.{le-leb, lt-leb, le-ltb, lt-ltb}
use Rattle.definitions.specs.Sizes.{most_bytes}
use Rattle.definitions.specs.Lists.{only_if, through}
use Rattle.definitions.specs.Lines.{cut}
use Rattle.definitions.specs.SmFile.{Tag, is_tagged, tag_of, notes_tag, block_text, block_end, starts_block, blocks_from, blocks, data_of, type_of, lanes_of_type, sm_tag, sm_text, sm_lanes, sm_data, sm_start, sm_checks, sm_part, sm_answer, sm_number}
use Rattle.definitions.specs.Refusals.{long_text}
use Rattle.definitions.specs.SmBlocks.{LeastRefused}
use Rattle.definitions.proofs.Refusals.{told-alike}
use Rattle.definitions.proofs.SmBlocks.{least-refused}
use Rattle.lines.specs.Lines.{lines_from}
use Rattle.lines.proofs.Lines.{lines_start}
use Rattle.files.specs.Tags.{first_tag}
use Rattle.files.specs.Sm.{line_past_block}
use Rattle.files.specs.Rest.{BlockChart, chart_from, answer_from, RestAnswered}
use Rattle.std.specs.Prelude.{Option}
use Rattle.std.specs.Prelude.{Some, None}
use Rattle.files.proofs.Words.{drop_head}
use Rattle.files.proofs.Tags.{moved}
use Rattle.files.proofs.Blocks.{from, any-past, block_met, none_met, step_end}

-- tests of two places moved by p
leb-moved : (p a b : ℕ) → leb (p + a) (p + b) ≡ leb a b
leb-moved p a b = elim (dec_lt b a) [
  | yes h ↦ simp (lt-leb (p + a) (p + b) (omega arith), lt-leb a b h)
  | no h ↦ simp (le-leb (p + a) (p + b) (omega arith), le-leb a b (omega arith))
]

-- a list whose elements are all changed
get_d_map : {A B : Type 0} (f : A → B) (l : List A) (k : ℕ) (d : B) (e : A) → k < length l → get_or (map f l) k d ≡ f (get_or l k e)
get_d_map f [] k d e h = absurd (omega arith)
get_d_map f (a ∷ l) zero d e h = refl
get_d_map f (a ∷ l) (suc k) d e h = get_d_map f l k d e (omega arith)

-- an empty file has no block
no_blocks : blocks [] ≡ []
unfolding blocks blocks_from starts_block is_tagged notes_tag
no_blocks = refl

-- the lines from a place of the file on are those of the file from there on
lines_at : (file : List ℕ) (p : ℕ) → p ≤ length file → lines_from file p ≡ cut (drop p file)
unfolding lines_from
lines_at file p h = simp (le-leb p (length file) h)

module _ (file : List ℕ) (p : ℕ) where
  pub text-moved : (t : Tag) → block_text file (moved p t) ≡ block_text (drop p file) t
  unfolding block_text
  text-moved t = ap (through 59) (sym (drop-drop t.end p file))

  pub end_moved : (t : Tag) → block_end file (moved p t) ≡ p + block_end (drop p file) t
  unfolding block_end
  end_moved t = omega (arith, ap length (text-moved t))

  tag-moved : (at : ℕ) (line : List ℕ) → tag_of notes_tag (p + at) line ≡ moved p (tag_of notes_tag at line)
  unfolding tag_of
  tag-moved at line = ap (λ e. record { line = p + at; end = e }) (omega arith)

  test-moved : (past at : ℕ) (line : List ℕ) → starts_block (p + past) (p + at) line ≡ starts_block past at line
  unfolding starts_block
  test-moved past at line = rw (leb-moved p past at)

  blocks-moved : (past at : ℕ) (lines : List (List ℕ)) → blocks_from file (p + past) (p + at) lines ≡ map (moved p) (blocks_from (drop p file) past at lines)
  unfolding blocks_from
  blocks-moved past at [] = refl
  blocks-moved past at (line ∷ lines) =
      rw (test-moved past at line) (go (starts_block past at line) (λ q. blocks-moved q (at + length line + 1) lines))
    where
      place : p + at + length line + 1 ≡ p + (at + length line + 1)
      place = omega arith

      go : (b : Bool) → ((q : ℕ) → blocks_from file (p + q) (p + (at + length line + 1)) lines ≡ map (moved p) (blocks_from (drop p file) q (at + length line + 1) lines))
          → only_if b (tag_of notes_tag (p + at) line ∷ []) ++ blocks_from file (cond b (block_end file (tag_of notes_tag (p + at) line)) (p + past)) (p + at + length line + 1) lines
          ≡ map (moved p) (only_if b (tag_of notes_tag at line ∷ []) ++ blocks_from (drop p file) (cond b (block_end (drop p file) (tag_of notes_tag at line)) past) (at + length line + 1) lines)
      go true ih =
          ap (λ (t : Tag). t ∷ blocks_from file (block_end file t) (p + at + length line + 1) lines) (tag-moved at line)
          ∙ ap (λ (l : List Tag). moved p (tag_of notes_tag at line) ∷ l)
          (ap (λ q. blocks_from file q (p + at + length line + 1) lines) (end_moved (tag_of notes_tag at line))
          ∙ ap (λ n. blocks_from file (p + block_end (drop p file) (tag_of notes_tag at line)) n lines) place
          ∙ ih (block_end (drop p file) (tag_of notes_tag at line)))
      go false ih = ap (λ n. blocks_from file (p + past) n lines) place ∙ ih past

  all_moved : blocks_from file (p + 0) (p + 0) (cut (drop p file)) ≡ map (moved p) (blocks (drop p file))
  unfolding blocks
  all_moved = blocks-moved 0 0 (cut (drop p file))

  -- the blocks from p on
  pub from-moved : from file 0 p ≡ map (moved p) (blocks (drop p file))
  from-moved = elim (dec_lt (length file) p) [
    | yes h ↦
        let past : length file ≤ p = omega arith in
        let none : drop p file ≡ [] = drop_of_length-le file past in
        step_end file 0 p h ∙ sym (ap (λ (l : List ℕ). map (moved p) (blocks l)) none ∙ ap (map (moved p)) no_blocks)
    | no h ↦
        let within : p ≤ length file = omega arith in
        let same : p ≡ p + 0 = omega arith in
        ap (blocks_from file 0 p) (lines_at file p within)
        ∙ sym (any-past file p p (cut (drop p file)) (omega arith))
        ∙ ap (λ q. blocks_from file q q (cut (drop p file))) same
        ∙ all_moved
  ]

-- all blocks are left at first
pub at_first : (file : List ℕ) → blocks file ≡ from file 0 0
unfolding blocks
at_first file = ap (blocks_from file 0 0) (sym (lines_start file))

-- a file's first block, and those after its lines
first_block : (file : List ℕ) → 0 < length (blocks file) → blocks file ≡ sm_tag file 0 ∷ from file 0 (line_past_block file (sm_tag file 0))
unfolding sm_tag
first_block file h = go (first_tag notes_tag 0 (lines_from file 0)) refl
  where
    go : (f : Option Tag) → first_tag notes_tag 0 (lines_from file 0) ≡ f → blocks file ≡ sm_tag file 0 ∷ from file 0 (line_past_block file (sm_tag file 0))
    go None e =
        let none = at_first file ∙ none_met file (suc (length file)) 0 (omega arith) e in
        absurd (omega (arith, ap length none))
    go (Some t) e =
        let all = at_first file ∙ block_met file 0 t e in
        let is : get_or (blocks file) 0 (record { line = 0; end = 0 }) ≡ t = (drop_head (blocks file) 0 t (record { line = 0; end = 0 }) _ all).1 in
        all ∙ ap (λ (u : Tag). u ∷ from file 0 (line_past_block file u)) (sym is)

-- charts that are the same in each part
alike : {l l' : Option ℕ} {n n' : ℕ} {s s' : List ℕ} → l ≡ l' → n ≡ n' → s ≡ s'
    → ◌≡◌ {A = BlockChart} (record { lanes = l; start = n; part = s }) (record { lanes = l'; start = n'; part = s' })
alike e f g = rw (e, f, g)

module _ (file : List ℕ) (short : length file ≤ most_bytes) (some : 0 < length (blocks file)) where
  abbrev p : ℕ
  p = line_past_block file (sm_tag file 0)

  abbrev rest : List ℕ
  rest = drop p file

  all_blocks : blocks file ≡ sm_tag file 0 ∷ map (moved p) (blocks rest)
  all_blocks = first_block file some ∙ ap (λ (l : List Tag). sm_tag file 0 ∷ l) (from-moved file p)

  count : length (blocks file) ≡ suc (length (blocks rest))
  count = ap length all_blocks ∙ ap suc (length-map (blocks rest) (moved p))

  module _ (k : ℕ) where
    tag_same : k < length (blocks rest) → sm_tag file (suc k) ≡ moved p (sm_tag rest k)
    unfolding sm_tag
    tag_same h = ap (λ (l : List Tag). get_or l (suc k) (record { line = 0; end = 0 })) all_blocks ∙ get_d_map (moved p) (blocks rest) k _ _ h

    text_same : k < length (blocks rest) → sm_text rest k ≡ sm_text file (suc k)
    unfolding sm_text
    text_same h = sym (ap (block_text file) (tag_same h) ∙ text-moved file p (sm_tag rest k))

    lanes-same : k < length (blocks rest) → sm_lanes rest k ≡ sm_lanes file (suc k)
    unfolding sm_lanes
    lanes-same h = ap (λ (t : List ℕ). lanes_of_type (type_of t)) (text_same h)

    part_same : k < length (blocks rest) → sm_data rest k ≡ sm_data file (suc k)
    unfolding sm_data
    part_same h = ap data_of (text_same h)

    start-same : k < length (blocks rest) → p + sm_start rest k ≡ sm_start file (suc k)
    unfolding sm_start
    start-same h = omega (arith, ap (λ (t : Tag). t.end) (tag_same h), ap length (text_same h), ap length (part_same h))

    chart-same : k < length (blocks rest) → chart_from p rest k ≡ chart_from 0 file (suc k)
    chart-same h = alike (lanes-same h) (omega (arith, start-same h)) (part_same h)

    number-there : k < length (blocks rest) → sm_number rest k ≡ sm_number file (suc k)
    unfolding sm_answer long_text
    number-there h =
        let less : length rest ≤ most_bytes = omega (arith, length-drop p file) in
        let more : suc k < length (blocks file) = omega (arith, count) in
        told-alike (sm_checks rest k) (sm_part rest k) (sm_part file (suc k))
        ∙ simp (le-ltb most_bytes (length rest) less, le-ltb most_bytes (length file) short, lt-leb (length (blocks rest)) k h, lt-leb (length (blocks file)) (suc k) more)
        (rw (text_same h, lanes-same h))

    number_same : sm_number rest k ≡ sm_number file (suc k)
    unfolding LeastRefused
    number_same = elim (dec_lt k (length (blocks rest))) [
      | yes h ↦ number-there h
      | no h ↦
          let less : length rest ≤ most_bytes = omega (arith, length-drop p file) in
          let past : length (blocks rest) ≤ k = omega arith in
          let past_all : length (blocks file) ≤ suc k = omega (arith, count) in
          (least-refused rest less).answered k past ∙ sym ((least-refused file short).answered (suc k) past_all)
    ]

    answer-same : answer_from p rest k ≡ answer_from 0 file (suc k)
    answer-same = elim (dec_lt k (length (blocks rest))) [
      | yes h ↦
          let more : suc k < length (blocks file) = omega (arith, count) in
          rw (number_same, lt-ltb k (length (blocks rest)) h, lt-ltb (suc k) (length (blocks file)) more, chart-same h)
      | no h ↦
          let past : length (blocks rest) ≤ k = omega arith in
          let past_all : length (blocks file) ≤ suc k = omega (arith, count) in
          rw (number_same, le-ltb k (length (blocks rest)) past, le-ltb (suc k) (length (blocks file)) past_all)
    ]

pub rest-answered : RestAnswered
unfolding RestAnswered
rest-answered file short some = search (answer-same file short some)
