-- From the blocks of a file to its charts: as `next` meets the blocks, and as `sm_chart` meets what was found.
use mathlib.Core.Path.{◌≡◌, refl, ap, sym, ◌∙◌}
use mathlib.Core.Bool.{Bool, true, false, cond}
use mathlib.Core.List.{List, [], ◌∷◌, map}
use Prim.Native.Nat.{ℕ, zero, suc, ◌+◌, ◌-◌, ◌≤◌, ◌<◌}
use native.Mathlib.Omega.{arith}
use lib.Dec.{ltb}
use lib.ListN.{length, get_or, drop, length-drop}
use lib.Seq.{drop-drop, drop-append_seam}
use borrow.Author.Tests.{le-ltb, le-leb, lt-leb}
use Rattle.std.specs.Prelude.{Option, Some, None, option_map, slice_get, ok_or, Result, Ok, Err, IsErrAnd}
use Rattle.definitions.specs.Sizes.{most_bytes}
use Rattle.definitions.specs.Lists.{up_to, through, after}
use Rattle.definitions.specs.SmFile.{Tag, notes_tag, block_text, block_end, blocks, colons, data_of, type_of, lanes_of_type, sm_tag, sm_text, sm_lanes, sm_data, sm_start, sm_answer}
use Rattle.definitions.specs.SmBlocks.{BlocksApart}
use Rattle.definitions.specs.Refusals.{long_text}
use Rattle.definitions.specs.declared.Refusal.{Refusal}
use Rattle.definitions.specs.declared.Refusal.TheVariants.{FewFields, OtherType, NoChart}
use Rattle.definitions.proofs.Lists.{through-after}
use Rattle.definitions.proofs.SmBlocks.{blocks-apart, data-to-end}
use Rattle.lines.specs.Lines.{first_line, lines_from}
use Rattle.lines.proofs.Lines.{lines_start}
use Rattle.files.specs.Tags.{first_tag, after_tag}
use Rattle.files.specs.declared.sm.SmChart.{SmChart}
use Rattle.files.specs.Sm.{BlockPart, answer_of, block_at, block_parts, line_past_block, data_part}
use Rattle.files.proofs.Blocks.{block_met, none_met}
use Rattle.files.proofs.Tags.{moved}
use Rattle.files.proofs.Rest.{at_first, text-moved, end_moved, from-moved}

-- ---- The blocks one after the other
-- the blocks of the part from p on, in the whole
parts-moved : (file : List ℕ) (p : ℕ) (ts : List Tag) → map (block_at file) (map (moved p) ts) ≡ map (block_at (drop p file)) ts
parts-moved file p [] = refl
parts-moved file p (t ∷ ts) =
    let below : drop (block_end file (moved p t)) file ≡ drop (block_end (drop p file) t) (drop p file) =
    ap (λ n. drop n file) (end_moved file p t) ∙ sym (drop-drop (block_end (drop p file) t) p file) in
    ap (λ x. record { text = x; below = drop (block_end file (moved p t)) file } ∷ map (block_at file) (map (moved p) ts)) (text-moved file p t)
    ∙ ap (λ x. record { text = block_text (drop p file) t; below = x } ∷ map (block_at file) (map (moved p) ts)) below
    ∙ ap (λ (l : List BlockPart). block_at (drop p file) t ∷ l) (parts-moved file p ts)

module _ (file : List ℕ) where
  pub blocks-none : after_tag notes_tag file ≡ None → block_parts file ≡ []
  unfolding after_tag block_parts
  blocks-none e = go (first_tag notes_tag 0 (lines_from file 0)) refl (ap (λ ls. option_map (λ (t : Tag). drop t.end file) (first_tag notes_tag 0 ls)) (lines_start file) ∙ e)
    where
      go : (o : Option Tag) → first_tag notes_tag 0 (lines_from file 0) ≡ o → option_map (λ (t : Tag). drop t.end file) o ≡ None → map (block_at file) (blocks file) ≡ []
      go None found w = ap (map (block_at file)) (at_first file ∙ none_met file (suc (length file)) 0 (omega arith) found)
      go (Some t) found w = let z : ◌≡◌ {A = ℕ} 0 1 = cc in absurd (omega arith)

  -- what follows a block, and the line on which it ends
  module _ (t : Tag) where
    below-is : drop (block_end file t) file ≡ after 59 (drop t.end file)
    unfolding block_end block_text
    below-is =
        let u : List ℕ = drop t.end file in
        sym (drop-drop (length (through 59 u)) t.end file)
        ∙ ap (drop (length (through 59 u))) (sym (through-after 59 u))
        ∙ drop-append_seam (through 59 u) (after 59 u)

    part-is : (u : List ℕ) → drop t.end file ≡ u → block_at file t ≡ record { text = through 59 u; below = after 59 u }
    unfolding block_text
    part-is u e =
        ap (λ x. record { text = through 59 (drop t.end file); below = x }) below-is
        ∙ ap (λ v. record { text = through 59 v; below = after 59 v }) e

    past-is : drop (line_past_block file t) file ≡ after 10 (drop (block_end file t) file)
    unfolding line_past_block after first_line
    past-is =
        let next : block_end file t + length (up_to 10 (drop (block_end file t) file)) + 1 ≡ block_end file t + suc (length (up_to 10 (drop (block_end file t) file))) = omega arith in
        ap (λ n. drop n file) next ∙ sym (drop-drop (suc (length (up_to 10 (drop (block_end file t) file)))) (block_end file t) file)

  blocks-some : (u : List ℕ) → after_tag notes_tag file ≡ Some u → block_parts file ≡ record { text = through 59 u; below = after 59 u } ∷ block_parts (after 10 (after 59 u))
  unfolding after_tag block_parts
  blocks-some u e = go (first_tag notes_tag 0 (lines_from file 0)) refl (ap (λ ls. option_map (λ (t : Tag). drop t.end file) (first_tag notes_tag 0 ls)) (lines_start file) ∙ e)
    where
      go : (o : Option Tag) → first_tag notes_tag 0 (lines_from file 0) ≡ o → option_map (λ (t : Tag). drop t.end file) o ≡ Some u
          → map (block_at file) (blocks file) ≡ record { text = through 59 u; below = after 59 u } ∷ map (block_at (after 10 (after 59 u))) (blocks (after 10 (after 59 u)))
      go None found w = let z : ◌≡◌ {A = ℕ} 0 1 = cc in absurd (omega arith)
      go (Some t) found w =
          let tag : drop t.end file ≡ u = cc in
          let p : ℕ = line_past_block file t in
          let rest : drop p file ≡ after 10 (after 59 u) = past-is t ∙ ap (after 10) (below-is t ∙ ap (after 59) tag) in
          ap (map (block_at file)) (at_first file ∙ block_met file 0 t found ∙ ap (λ (l : List Tag). t ∷ l) (from-moved file p))
          ∙ ap (λ (l : List BlockPart). block_at file t ∷ l) (parts-moved file p (blocks (drop p file)) ∙ ap (λ (s : List ℕ). map (block_at s) (blocks s)) rest)
          ∙ ap (λ (b : BlockPart). b ∷ map (block_at (after 10 (after 59 u))) (blocks (after 10 (after 59 u)))) (part-is t u tag)

  -- the block that is found, and the blocks below the line on which it ends
  pub blocks-next : (u text below rest : List ℕ) → after_tag notes_tag file ≡ Some u → text ≡ through 59 u → below ≡ after 59 u → rest ≡ after 10 below
      → block_parts file ≡ record { text = text; below = below } ∷ block_parts rest
  blocks-next u text below rest e et eb er = rw (er, et, eb) (blocks-some u e)

-- ---- The answer
-- a refusal that `?` hands on
pub handed-on : (r : Result SmChart Refusal) (e : Refusal) → IsErrAnd r (λ x. x ≡ e) → answer_of r ≡ Err e
handed-on (Ok c) e h = absurd h
handed-on (Err x) e h = ap Err h

-- what was not there, where `ok_or` gave a refusal, and what was, where it gave none
pub missing : {T : Type 0} (o : Option T) (refusal e : Refusal) (r : Result T Refusal) → r ≡ ok_or o refusal → r ≡ Err e → (o ≡ None) × (e ≡ refusal)
missing None refusal e r given is = (refl, cc)
missing (Some x) refusal e r given is = let z : ◌≡◌ {A = ℕ} 0 1 = cc in absurd (omega arith)

pub present : {T : Type 0} (o : Option T) (refusal : Refusal) (x : T) (r : Result T Refusal) → r ≡ ok_or o refusal → r ≡ Ok x → o ≡ Some x
present None refusal x r given is = let z : ◌≡◌ {A = ℕ} 0 1 = cc in absurd (omega arith)
present (Some y) refusal x r given is = cc

get_map : {A B : Type 0} (f : A → B) (l : List A) (k : ℕ) → slice_get (map f l) k ≡ option_map f (slice_get l k)
get_map f [] k = refl
get_map f (a ∷ l) zero = refl
get_map f (a ∷ l) (suc k) = get_map f l k

get_none : {A : Type 0} (l : List A) (k : ℕ) → slice_get l k ≡ None → length l ≤ k
get_none [] k e = omega arith
get_none (a ∷ l) zero e = let z : ◌≡◌ {A = ℕ} 0 1 = cc in absurd (omega arith)
get_none (a ∷ l) (suc k) e = omega (arith, get_none l k e)

get_some : {A : Type 0} (l : List A) (k : ℕ) (x d : A) → slice_get l k ≡ Some x → (k < length l) × (get_or l k d ≡ x)
get_some [] k x d e = let z : ◌≡◌ {A = ℕ} 0 1 = cc in absurd (omega arith)
get_some (a ∷ l) zero x d e = (omega arith, cc)
get_some (a ∷ l) (suc k) x d e = let h = get_some l k x d e in (omega (arith, h.0), h.1)

part-few : (text : List ℕ) → data_part text ≡ None → ltb (colons text) 5 ≡ true
unfolding data_part
part-few text e = go (ltb (colons text) 5) e
  where
    go : (t : Bool) → cond t None (Some (data_of text)) ≡ None → t ≡ true
    go true z = refl
    go false z = let z : ◌≡◌ {A = ℕ} 0 1 = cc in absurd (omega arith)

module _ (file : List ℕ) (k : ℕ) (short : length file ≤ most_bytes) where
  pub answer-none : slice_get (block_parts file) k ≡ None → Err NoChart ≡ sm_answer file k
  unfolding sm_answer long_text block_parts
  answer-none e = go (slice_get (blocks file) k) refl (sym (get_map (block_at file) (blocks file) k) ∙ e)
    where
      go : (o : Option Tag) → slice_get (blocks file) k ≡ o → option_map (block_at file) o ≡ None → Err NoChart ≡ sm_answer file k
      go None w z = simp (le-ltb most_bytes (length file) short, le-leb (length (blocks file)) k (get_none (blocks file) k w))
      go (Some t) w z = let z : ◌≡◌ {A = ℕ} 0 1 = cc in absurd (omega arith)

  module _ (b : BlockPart) (e : slice_get (block_parts file) k ≡ Some b) where
    -- block k is there, and this is its part
    here : (k < length (blocks file)) × (block_at file (sm_tag file k) ≡ b)
    unfolding block_parts sm_tag
    here = go (slice_get (blocks file) k) refl (sym (get_map (block_at file) (blocks file) k) ∙ e)
      where
        go : (o : Option Tag) → slice_get (blocks file) k ≡ o → option_map (block_at file) o ≡ Some b → (k < length (blocks file)) × (block_at file (get_or (blocks file) k (record { line = 0; end = 0 })) ≡ b)
        go None w z = let z : ◌≡◌ {A = ℕ} 0 1 = cc in absurd (omega arith)
        go (Some t) w z =
            let h = get_some (blocks file) k t (record { line = 0; end = 0 }) w in
            (h.0, ap (block_at file) h.1 ∙ cc)

    text_is : sm_text file k ≡ b.text
    unfolding sm_text
    text_is = ap (λ (x : BlockPart). x.text) here.1

    pub answer-few : data_part b.text ≡ None → Err FewFields ≡ sm_answer file k
    unfolding sm_answer long_text
    answer-few w =
        simp (le-ltb most_bytes (length file) short, lt-leb (length (blocks file)) k here.0, part-few (sm_text file k) (ap data_part text_is ∙ w))

    module _ (d : List ℕ) (ed : data_part b.text ≡ Some d) where
      enough : (ltb (colons (sm_text file k)) 5 ≡ false) × (sm_data file k ≡ d)
      unfolding data_part sm_data
      enough = go (ltb (colons (sm_text file k)) 5) refl (ap data_part text_is ∙ ed)
        where
          go : (t : Bool) → ltb (colons (sm_text file k)) 5 ≡ t → cond t None (Some (data_of (sm_text file k))) ≡ Some d → (ltb (colons (sm_text file k)) 5 ≡ false) × (data_of (sm_text file k) ≡ d)
          go true q z = let z : ◌≡◌ {A = ℕ} 0 1 = cc in absurd (omega arith)
          go false q z = (q, cc)

      pub answer-other : lanes_of_type (type_of b.text) ≡ None → Err OtherType ≡ sm_answer file k
      unfolding sm_answer long_text sm_lanes
      answer-other w =
          let none : lanes_of_type (type_of (sm_text file k)) ≡ None = ap (λ l. lanes_of_type (type_of l)) text_is ∙ w in
          simp (le-ltb most_bytes (length file) short, lt-leb (length (blocks file)) k here.0, enough.0, none)

      ends : block_end file (sm_tag file k) ≤ length file
      unfolding BlocksApart
      ends = (blocks-apart file).within k here.0

      size : length b.below ≡ length file - block_end file (sm_tag file k)
      size = ap (λ (x : BlockPart). length x.below) (sym here.1) ∙ length-drop (block_end file (sm_tag file k)) file

      -- the data ends where what follows the block begins
      pub data-fits : length b.below + length d ≤ length file
      data-fits =
          omega (arith, size, ends, data-to-end file k, ap length enough.1)

      pub answer-chart : (n : ℕ) → lanes_of_type (type_of b.text) ≡ Some n → Ok (record { lanes = n; start = length file - length b.below - length d; part = d }) ≡ sm_answer file k
      unfolding sm_answer long_text sm_lanes
      answer-chart n w =
          let some : lanes_of_type (type_of (sm_text file k)) ≡ Some n = ap (λ l. lanes_of_type (type_of l)) text_is ∙ w in
          let start : length file - length b.below - length d ≡ sm_start file k = omega (arith, size, ends, data-to-end file k, ap length enough.1) in
          simp (le-ltb most_bytes (length file) short, lt-leb (length (blocks file)) k here.0, enough.0, some) (cc (start, enough.1))
