-- What a reader expects of `rest-answered`, by its statement and that of `least-refused` alone.
use mathlib.Core.Path.{◌≡◌, refl, ap, ap₂, sym, ◌∙◌}
use mathlib.Core.List.{List, ◌∷◌, map}
use Prim.Native.Nat.{ℕ, zero, suc, ◌+◌, ◌≤◌, ◌<◌}
use native.Mathlib.Nat.{add-zero, zero-add}
use native.Mathlib.Omega.{arith}
use borrow.Author.Tests.{lt-ltb}
use lib.ListN.{length, drop, length-drop}
use Rattle.std.specs.List.{range_with_len}
use Rattle.definitions.specs.Sizes.{most_bytes}
use Rattle.definitions.specs.SmFile.{blocks, sm_tag, sm_lanes, sm_data, sm_start, sm_number}
use Rattle.definitions.specs.SmBlocks.{Least, LeastRefused}
use Rattle.definitions.proofs.Consequences.Places.{some-same}
use Rattle.files.specs.Sm.{line_past_block}
use Rattle.files.specs.Rest.{BlockChart, chart_from, BlockAnswer, answer_from, RestAnswered, each_block, RestInOrder}

-- what f makes of n numbers from a on is what g makes of n numbers from b on
ranges-same : {A : Type 0} (f g : ℕ → A) (n a b : ℕ) → ((k : ℕ) → k < n → f (a + k) ≡ g (b + k)) → map f (range_with_len a n) ≡ map g (range_with_len b n)
ranges-same f g zero a b h = refl
ranges-same f g (suc n) a b h =
    ap₂ (λ x l. x ∷ l) (ap f (sym (add-zero a)) ∙ h 0 (omega arith) ∙ ap g (add-zero b))
    (ranges-same f g n (a + 1) (b + 1) (λ k l. moved f (a + 1 + k) (a + suc k) (omega arith) ∙ h (suc k) (omega arith) ∙ moved g (b + suc k) (b + 1 + k) (omega arith)))
  where
    moved : {A : Type 0} (f : ℕ → A) (i j : ℕ) → i ≡ j → f i ≡ f j
    moved f i j e = ap f e

-- one after the first
first-then : {A : Type 0} (f g : ℕ → A) (m n : ℕ) → m ≡ suc n → ((k : ℕ) → k < n → g k ≡ f (suc k)) → map f (range_with_len 0 m) ≡ f 0 ∷ map g (range_with_len 0 n)
first-then f g m n e h =
    ap (λ m. map f (range_with_len 0 m)) e
    ∙ ap (λ l. f 0 ∷ l) (ranges-same f g n (0 + 1) 0 (λ k l. ap f (omega arith) ∙ sym (h k l) ∙ ap g (sym (zero-add k))))

module _ (rest : RestAnswered) (least : LeastRefused) (file : List ℕ) (short : length file ≤ most_bytes) (some : 0 < length (blocks file)) where
  abbrev p : ℕ
  p = line_past_block file (sm_tag file 0)

  abbrev others : List ℕ
  others = drop p file

  same : (k : ℕ) → answer_from p others k ≡ answer_from 0 file (suc k)
  unfolding RestAnswered
  same k = search arith

  same-number : (k : ℕ) → sm_number others k ≡ sm_number file (suc k)
  same-number k = ap (λ (a : BlockAnswer). a.number) (same k)

  -- 11 is answered by both from the same block on
  one-less : length (blocks file) ≡ suc (length (blocks others))
  unfolding LeastRefused
  one-less = go (length (blocks file)) refl
    where
      n : ℕ
      n = length (blocks others)

      all : Least file
      all = least file short

      fewer : Least others
      fewer = least others (omega (arith, length-drop p file))

      go : (m : ℕ) → length (blocks file) ≡ m → length (blocks file) ≡ suc n
      go zero e = absurd (omega arith)
      go (suc q) e =
          let past : length (blocks file) ≤ suc q = omega arith in
          omega (arith, e, all.least (suc n) (omega (arith, same-number n, fewer.answered n (omega arith))), fewer.least q (omega (arith, same-number q, all.answered (suc q) past)))

  same-chart : (k : ℕ) → k < length (blocks others) → chart_from p others k ≡ chart_from 0 file (suc k)
  same-chart k h =
      let more : suc k < length (blocks file) = omega (arith, one-less) in
      some-same (rw (lt-ltb k (length (blocks others)) h, lt-ltb (suc k) (length (blocks file)) more) at (ap (λ (a : BlockAnswer). a.chart) (same k)))

  in-order : (length (blocks file) ≡ suc (length (blocks others)))
      × (each_block sm_number file ≡ sm_number file 0 ∷ each_block sm_number others)
      × (each_block sm_lanes file ≡ sm_lanes file 0 ∷ each_block sm_lanes others)
      × (each_block sm_data file ≡ sm_data file 0 ∷ each_block sm_data others)
      × (each_block sm_start file ≡ sm_start file 0 ∷ each_block (λ rest k. p + sm_start rest k) others)
  in-order = (
    one-less,
    each sm_number sm_number (λ k h. same-number k),
    each sm_lanes sm_lanes (λ k h. ap (λ (c : BlockChart). c.lanes) (same-chart k h)),
    each sm_data sm_data (λ k h. ap (λ (c : BlockChart). c.part) (same-chart k h)),
    each sm_start (λ rest k. p + sm_start rest k)
        (λ k h.
        let moved : p + sm_start others k ≡ 0 + sm_start file (suc k) = ap (λ (c : BlockChart). c.start) (same-chart k h) in
        omega (arith, moved)),
  )
    where
      each : {A : Type 0} (f g : List ℕ → ℕ → A) → ((k : ℕ) → k < length (blocks others) → g others k ≡ f file (suc k))
          → each_block f file ≡ f file 0 ∷ each_block g others
      each f g h = first-then (f file) (g others) (length (blocks file)) (length (blocks others)) one-less h

pub rest-in_order : RestAnswered → LeastRefused → RestInOrder
unfolding RestInOrder
rest-in_order rest least file short some = in-order rest least file short some
