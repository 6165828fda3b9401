-- What is made of rows that part into ps and q: what is made in ps, what in q, and what of it depends on what.
use mathlib.Core.Path.{◌≡◌, refl, ap, sym, ◌∙◌}
use mathlib.Core.Logic.{◌⊎◌, inl, inr}
use mathlib.Core.Bool.{Bool, true, false, ◌&&◌, not, true≢false, false≢true}
use mathlib.Core.List.{List, [], ◌∷◌, ◌++◌, append_assoc}
use Prim.Native.Nat.{ℕ, zero, suc, ◌+◌, ◌≤◌, ◌<◌}
use native.Mathlib.Nat.{add-zero, zero-add, add-suc, suc-add}
use native.Mathlib.Omega.{arith}
use borrow.Author.Tests.{lt-ltb, le-ltb, le-leb, lt-leb, eq-eqb, ne_eqb, ltb-true, ltb-false}
use lib.Dec.{eqb, ltb, leb}
use lib.ListN.{length, drop, get_or, length-drop, get_or-eq_default, get_or-append}
use lib.Seq.{drop-append-le}
use Rattle.std.specs.List.{filter, AllZip}
use Rattle.std.proofs.lemmas.List.Elements.{filter-append}
use Rattle.definitions.specs.Lines.{Row}
use Rattle.definitions.specs.Cells.{byte_at}
use Rattle.definitions.specs.Notes.{effect_at}
use Rattle.definitions.specs.Dropped.{decides, fate_of, made_row, made_from}
use Rattle.definitions.specs.declared.NoteEffect.{NoteEffect}
use Rattle.definitions.specs.declared.NoteEffect.TheVariants.{Nothing, Closes, Single, Head}
use Rattle.definitions.specs.declared.DropCause.{DropCause}
use Rattle.definitions.specs.declared.DropCause.TheVariants.{OtherHead, OtherCell, ChartEnd}
use Rattle.definitions.specs.declared.Fate.{Fate}
use Rattle.definitions.specs.declared.Fate.TheVariants.{ClosedAt, DroppedBy}
use Rattle.definitions.proofs.Bools.{and_left, and_right, and-false}
use Rattle.definitions.proofs.Lists.{All, none as all_none, all_append, all_map, filter-all, filter-none, filter-left, filter-right}
use Rattle.definitions.specs.Damage.{is_head, head_kind, untouched, byte_in, open_in}
use Rattle.definitions.specs.DroppedStays.{ShiftedCause, by_head, by_cell, by_end, LateCause}
use Rattle.definitions.proofs.Damage.Bytes.{stopping, heading, stops-is, head-is, head-kind}

-- ---- The fate of a head

-- the same rows under other numbers
module _ (a b : ℕ) where
  pub data ShiftedFate : Fate → Fate → Type 0 where
    closes : {x y : ℕ} → y + a ≡ x + b → ShiftedFate (ClosedAt x) (ClosedAt y)
    drops : {x y : DropCause} → ShiftedCause a b x y → ShiftedFate (DroppedBy x) (DroppedBy y)

  decides-shift : (x : NoteEffect) (i j : ℕ) → j + a ≡ i + b → {f g : Fate} → ShiftedFate f g → ShiftedFate (decides x i f) (decides x j g)
  decides-shift Nothing i j e h = h
  decides-shift Closes i j e h = closes e
  decides-shift (Single k) i j e h = drops (by_cell e)
  decides-shift (Head k) i j e h = drops (by_head e)

  fate-shift : (c i j : ℕ) → j + a ≡ i + b → (rs : List Row) → ShiftedFate (fate_of c i rs) (fate_of c j rs)
  fate-shift c i j e [] = drops by_end
  fate-shift c i j e (r ∷ rs) = decides-shift (effect_at (byte_at c r)) i j e (fate-shift c (suc i) (suc j) (omega arith) rs)

-- a head that something stops before q has the same fate whatever q is
decides-same : (x : NoteEffect) (i : ℕ) {f g : Fate} → (stopping x ≡ false → f ≡ g) → decides x i f ≡ decides x i g
decides-same Nothing i h = h refl
decides-same Closes i h = refl
decides-same (Single k) i h = refl
decides-same (Head k) i h = refl

fate-fixed : (c i : ℕ) (rs q q' : List Row) → untouched c rs ≡ false → fate_of c i (rs ++ q) ≡ fate_of c i (rs ++ q')
fate-fixed c i [] q q' h = absurd (true≢false h)
fate-fixed c i (r ∷ rs) q q' h =
    decides-same (effect_at (byte_at c r)) i (λ z. fate-fixed c (suc i) rs q q' (rw (stops-is (byte_at c r), z) at h))

-- one that nothing stops has its fate from the rows that follow
fate-past : (c i : ℕ) (rs q : List Row) → untouched c rs ≡ true → fate_of c i (rs ++ q) ≡ fate_of c (i + length rs) q
fate-past c i [] q h = rw add-zero
fate-past c i (r ∷ rs) q h = go (effect_at (byte_at c r)) refl (fate-past c (suc i) rs q)
  where
    go : (x : NoteEffect) → effect_at (byte_at c r) ≡ x → (untouched c rs ≡ true → fate_of c (suc i) (rs ++ q) ≡ fate_of c (suc i + length rs) q)
        → fate_of c i (r ∷ rs ++ q) ≡ fate_of c (i + suc (length rs)) q
    go Nothing p ih = rw (p, add-suc, ← suc-add) (ih (rw (stops-is (byte_at c r), p) at h))
    go Closes p ih = absurd (false≢true (rw (stops-is (byte_at c r), p) at h))
    go (Single k) p ih = absurd (false≢true (rw (stops-is (byte_at c r), p) at h))
    go (Head k) p ih = absurd (false≢true (rw (stops-is (byte_at c r), p) at h))

-- and it is told by one of them, or by the chart's end
abbrev pub LateFate : ℕ → ℕ → Fate → Type 0
LateFate s n (ClosedAt j) = (s ≤ j) × (j < n)
LateFate s n (DroppedBy x) = LateCause s n x

pub late-fate : (c i n : ℕ) (rs : List Row) → i + length rs ≡ n → LateFate i n (fate_of c i rs)
late-fate c i n [] e = tt
late-fate c i n (r ∷ rs) e = go (effect_at (byte_at c r)) (fate_of c (suc i) rs) (late-fate c (suc i) n rs (omega arith))
  where
    sooner : (x : DropCause) → LateCause (suc i) n x → LateCause i n x
    sooner (OtherHead j) h = (omega (arith, h.0), h.1)
    sooner (OtherCell j) h = (omega (arith, h.0), h.1)
    sooner ChartEnd h = tt

    go : (x : NoteEffect) (f : Fate) → LateFate (suc i) n f → LateFate i n (decides x i f)
    go Nothing (ClosedAt j) h = (omega (arith, h.0), h.1)
    go Nothing (DroppedBy x) h = sooner x h
    go Closes f h = (omega arith, omega arith)
    go (Single k) f h = (omega arith, omega arith)
    go (Head k) f h = (omega arith, omega arith)

-- a head stands in a row that is there
head-there : (ps : List Row) (i c : ℕ) → is_head (byte_in ps i c) ≡ true → i < length ps
unfolding is_head
head-there ps i c h = go (ltb i (length ps)) refl
  where
    go : (t : Bool) → ltb i (length ps) ≡ t → i < length ps
    go true p = ltb-true i (length ps) p
    go false p = absurd (false≢true (rw (get_or-eq_default ps [] (ltb-false i (length ps) p)) at h))

-- ---- What is made, by what a cell makes at its row and column

module _ {A : Type 0} (row_of column_of : A → ℕ) (cell : NoteEffect → ℕ → ℕ → Fate → List A)
    (at : (x : NoteEffect) (i c : ℕ) (f : Fate) → All (λ a. (row_of a ≡ i) × (column_of a ≡ c)) (cell x i c f)) where
  -- of rows numbered from i, with the rows q after them
  abbrev pub made_in : ℕ → List Row → List Row → List A
  made_in i [] q = []
  made_in i (r ∷ rs) q = made_row cell i 0 r (rs ++ q) ++ made_in (suc i) rs q

  made-append : (i : ℕ) (rs q : List Row) → made_from cell i (rs ++ q) ≡ made_in i rs q ++ made_from cell (i + length rs) q
  made-append i [] q = rw add-zero
  made-append i (r ∷ rs) q =
      rw (append_assoc, add-suc, ← suc-add) (ap (λ l. made_row cell i 0 r (rs ++ q) ++ l) (made-append (suc i) rs q))

  row_at : (i c : ℕ) (bs : Row) (rs : List Row) → All (λ a. (row_of a ≡ i) × (c ≤ column_of a)) (made_row cell i c bs rs)
  row_at i c [] rs = all_none
  row_at i c (b ∷ bs) rs =
      all_append
      (all_map (λ x h. (h.0, omega (arith, h.1))) (at (effect_at b) i c (fate_of c (suc i) rs)))
      (all_map (λ x h. (h.0, omega (arith, h.1))) (row_at i (suc c) bs rs))

  made_at : (i : ℕ) (rs : List Row) → All (λ a. i ≤ row_of a) (made_from cell i rs)
  made_at i [] = all_none
  made_at i (r ∷ rs) =
      all_append (all_map (λ x h. omega (arith, h.0)) (row_at i 0 r rs)) (all_map (λ x h. omega arith) (made_at (suc i) rs))

  made_below : (i : ℕ) (rs q : List Row) → All (λ a. row_of a < i + length rs) (made_in i rs q)
  made_below i [] q = all_none
  made_below i (r ∷ rs) q =
      all_append (all_map (λ x h. omega (arith, h.0)) (row_at i 0 r (rs ++ q))) (all_map (λ x h. omega arith) (made_below (suc i) rs q))

  -- made before q, and in q
  pub before-part : (ps q : List Row) → filter (λ x. ltb (row_of x) (length ps)) (made_from cell 0 (ps ++ q)) ≡ made_in 0 ps q
  before-part ps q =
      let p : A → Bool = λ x. ltb (row_of x) (length ps) in
      ap (filter p) (made-append 0 ps q)
      ∙ filter-left p (made_in 0 ps q) (all_map (λ x h. le-ltb (row_of x) (length ps) (omega arith)) (made_at (0 + length ps) q))
      ∙ filter-all p (all_map (λ x h. lt-ltb (row_of x) (length ps) (omega arith)) (made_below 0 ps q))

  pub after-part : (ps q : List Row) → filter (λ x. leb (length ps) (row_of x)) (made_from cell 0 (ps ++ q)) ≡ made_from cell (length ps) q
  after-part ps q =
      let p : A → Bool = λ x. leb (length ps) (row_of x) in
      ap (filter p) (made-append 0 ps q ∙ ap (λ n. made_in 0 ps q ++ made_from cell n q) (zero-add (length ps)))
      ∙ filter-right p (made_from cell (length ps) q) (all_map (λ x h. lt-leb (length ps) (row_of x) (omega arith)) (made_below 0 ps q))
      ∙ filter-all p (all_map (λ x h. le-leb (length ps) (row_of x) (omega arith)) (made_at (length ps) q))

  -- the same rows under other numbers make what a cell does, shifted
  module _ (R : A → A → Type 0) (a b : ℕ)
      (shift : (x : NoteEffect) (i j c : ℕ) → j + a ≡ i + b → (f g : Fate) → ShiftedFate a b f g → AllZip R (cell x i c f) (cell x j c g)) where
    each_append : (s t u v : List A) → AllZip R s t → AllZip R u v → AllZip R (s ++ u) (t ++ v)
    each_append [] [] u v p q = q
    each_append [] (y ∷ t) u v p q = absurd p
    each_append (x ∷ s) [] u v p q = absurd p
    each_append (x ∷ s) (y ∷ t) u v p q = (p.0, each_append s t u v p.1 q)

    row-shift : (i j c : ℕ) → j + a ≡ i + b → (bs : Row) (rs : List Row) → AllZip R (made_row cell i c bs rs) (made_row cell j c bs rs)
    row-shift i j c e [] rs = tt
    row-shift i j c e (x ∷ bs) rs =
        each_append (cell (effect_at x) i c (fate_of c (suc i) rs)) (cell (effect_at x) j c (fate_of c (suc j) rs)) (made_row cell i (suc c) bs rs) (made_row cell j (suc c) bs rs)
        (shift (effect_at x) i j c e (fate_of c (suc i) rs) (fate_of c (suc j) rs) (fate-shift a b c (suc i) (suc j) (omega arith) rs)) (row-shift i j (suc c) e bs rs)

    pub made-shift : (i j : ℕ) → j + a ≡ i + b → (rs : List Row) → AllZip R (made_from cell i rs) (made_from cell j rs)
    made-shift i j e [] = tt
    made-shift i j e (r ∷ rs) = each_append (made_row cell i 0 r rs) (made_row cell j 0 r rs) (made_from cell (suc i) rs) (made_from cell (suc j) rs) (row-shift i j 0 e r rs) (made-shift (suc i) (suc j) (omega arith) rs)

  -- earlier ones, where only heads go by their fate
  module _ (others : (x : NoteEffect) → heading x ≡ false → (i c : ℕ) (f g : Fate) → cell x i c f ≡ cell x i c g) (P : ℕ → ℕ → Bool) where
    abbrev shut : A → Bool
    shut x = not (P (row_of x) (column_of x))

    gone : (x : NoteEffect) (i c : ℕ) (f : Fate) → P i c ≡ true → filter shut (cell x i c f) ≡ []
    gone x i c f e = filter-none shut (all_map (λ y h. rw (h.0, h.1, e) refl) (at x i c f))

    cell-left : (x : NoteEffect) (i c : ℕ) (rs q q' : List Row) (t u : Bool) → heading x ≡ t → untouched c rs ≡ u → P i c ≡ (t && u)
        → filter shut (cell x i c (fate_of c (suc i) (rs ++ q))) ≡ filter shut (cell x i c (fate_of c (suc i) (rs ++ q')))
    cell-left x i c rs q q' false u k h e = ap (filter shut) (others x k i c (fate_of c (suc i) (rs ++ q)) (fate_of c (suc i) (rs ++ q')))
    cell-left x i c rs q q' true true k h e = gone x i c (fate_of c (suc i) (rs ++ q)) e ∙ sym (gone x i c (fate_of c (suc i) (rs ++ q')) e)
    cell-left x i c rs q q' true false k h e = ap (λ f. filter shut (cell x i c f)) (fate-fixed c (suc i) rs q q' h)

    row-left : (i c : ℕ) (bs : Row) (rs q q' : List Row)
        → ((e : ℕ) → P i (c + e) ≡ (is_head (byte_at e bs) && untouched (c + e) rs))
        → filter shut (made_row cell i c bs (rs ++ q)) ≡ filter shut (made_row cell i c bs (rs ++ q'))
    row-left i c [] rs q q' h = refl
    row-left i c (b ∷ bs) rs q q' h =
        filter-append shut (cell (effect_at b) i c (fate_of c (suc i) (rs ++ q))) (made_row cell i (suc c) bs (rs ++ q))
        ∙ ap (λ l. l ++ filter shut (made_row cell i (suc c) bs (rs ++ q)))
        (cell-left (effect_at b) i c rs q q' (heading (effect_at b)) (untouched c rs) refl refl (rw (add-zero, head-is b) at (h 0)))
        ∙ ap (λ l. filter shut (cell (effect_at b) i c (fate_of c (suc i) (rs ++ q'))) ++ l)
        (row-left i (suc c) bs rs q q' (λ e. rw (suc-add, ← add-suc) (h (suc e))))
        ∙ sym (filter-append shut (cell (effect_at b) i c (fate_of c (suc i) (rs ++ q'))) (made_row cell i (suc c) bs (rs ++ q')))

    made-left : (i : ℕ) (rs q q' : List Row) → ((j c : ℕ) → P (i + j) c ≡ open_in rs j c) → filter shut (made_in i rs q) ≡ filter shut (made_in i rs q')
    made-left i [] q q' h = refl
    made-left i (r ∷ rs) q q' h =
        filter-append shut (made_row cell i 0 r (rs ++ q)) (made_in (suc i) rs q)
        ∙ ap (λ l. l ++ filter shut (made_in (suc i) rs q)) (row-left i 0 r rs q q' (λ e. rw zero-add (rw add-zero at (h 0 e))))
        ∙ ap (λ l. filter shut (made_row cell i 0 r (rs ++ q')) ++ l) (made-left (suc i) rs q q' (λ j c. rw (suc-add, ← add-suc) (h (suc j) c)))
        ∙ sym (filter-append shut (made_row cell i 0 r (rs ++ q')) (made_in (suc i) rs q'))

  pub earlier-left : ((x : NoteEffect) → heading x ≡ false → (i c : ℕ) (f g : Fate) → cell x i c f ≡ cell x i c g) → (ps q q' : List Row)
      → filter (λ x. not (open_in ps (row_of x) (column_of x))) (made_in 0 ps q) ≡ filter (λ x. not (open_in ps (row_of x) (column_of x))) (made_in 0 ps q')
  earlier-left others ps q q' = made-left others (open_in ps) 0 ps q q' (λ j c. rw zero-add)

  -- what is made at row i and column c: nothing, or what that cell makes
  module _ (i c : ℕ) where
    abbrev here : A → Bool
    here x = eqb (row_of x) i && eqb (column_of x) c

    is-here : (x : A) → (row_of x ≡ i) × (column_of x ≡ c) → here x ≡ true
    is-here x h = rw (eq-eqb (row_of x) i h.0, eq-eqb (column_of x) c h.1)

    off-row : (x : A) → (row_of x ≡ i → ⊥) → here x ≡ false
    off-row x h = rw (ne_eqb (row_of x) i h)

    off-column : (x : A) → (column_of x ≡ c → ⊥) → here x ≡ false
    off-column x h = rw (ne_eqb (column_of x) c h) (and-false (eqb (row_of x) i))

    abbrev made_by : List Row → ℕ → List A
    made_by rs b = cell (effect_at b) i c (fate_of c (suc i) rs)

    row_here : (e j : ℕ) → e + j ≡ c → (bs : Row) (rs : List Row)
        → (filter here (made_row cell i e bs rs) ≡ []) ⊎ (filter here (made_row cell i e bs rs) ≡ made_by rs (byte_at j bs))
    row_here e j p [] rs = inl refl
    row_here e zero p (b ∷ bs) rs =
        inr
        (rw (sym (add-zero e) ∙ p)
        (filter-left here (made_by rs b) (all_map (λ x q. off-column x (λ w. omega (arith, q.1))) (row_at i (suc c) bs rs))
        ∙ filter-all here (all_map is-here (at (effect_at b) i c (fate_of c (suc i) rs)))))
    row_here e (suc j) p (b ∷ bs) rs =
        rw (filter-right here (made_row cell i (suc e) bs rs) (all_map (λ x q. off-column x (λ w. omega (arith, q.1))) (at (effect_at b) i e (fate_of e (suc i) rs))))
        (row_here (suc e) j (omega arith) bs rs)

    made-here : (k j : ℕ) → k + j ≡ i → (rs : List Row)
        → (filter here (made_from cell k rs) ≡ []) ⊎ (filter here (made_from cell k rs) ≡ made_by (drop (suc j) rs) (byte_at c (get_or rs j [])))
    made-here k j p [] = inl refl
    made-here k zero p (r ∷ rs) =
        rw (sym (add-zero k) ∙ p, filter-left here (made_row cell i 0 r rs) (all_map (λ x q. off-row x (λ w. omega arith)) (made_at (suc i) rs)))
        (row_here 0 c (zero-add c) r rs)
    made-here k (suc j) p (r ∷ rs) =
        rw (filter-right here (made_from cell (suc k) rs) (all_map (λ x q. off-row x (λ w. omega (arith, q.0))) (row_at k 0 r rs)))
        (made-here (suc k) j (omega arith) rs)

    -- of a head that nothing stops in ps, by what follows them
    pub open-made : (ps q : List Row) → open_in ps i c ≡ true
        → (filter here (made_from cell 0 (ps ++ q)) ≡ [])
        ⊎ (filter here (made_from cell 0 (ps ++ q)) ≡ cell (Head (head_kind (byte_in ps i c))) i c (fate_of c (length ps) q))
    open-made ps q h = go (made-here 0 i (zero-add i) (ps ++ q))
      where
        free : untouched c (drop (suc i) ps) ≡ true
        free = and_right (is_head (byte_in ps i c)) (untouched c (drop (suc i) ps)) h

        headed-here : is_head (byte_in ps i c) ≡ true
        headed-here = and_left (is_head (byte_in ps i c)) (untouched c (drop (suc i) ps)) h

        inside : i < length ps
        inside = head-there ps i c headed-here

        there : made_by (drop (suc i) (ps ++ q)) (byte_at c (get_or (ps ++ q) i [])) ≡ cell (Head (head_kind (byte_in ps i c))) i c (fate_of c (length ps) q)
        there =
            rw (
              get_or-append ps q [] i inside,
              drop-append-le (suc i) ps q inside,
              head-kind (byte_in ps i c) headed-here,
              fate-past c (suc i) (drop (suc i) ps) q free,
            )
            (ap (λ n. cell (Head (head_kind (byte_in ps i c))) i c (fate_of c n q)) (omega (arith, inside, length-drop (suc i) ps)))

        go : (filter here (made_from cell 0 (ps ++ q)) ≡ [])
            ⊎ (filter here (made_from cell 0 (ps ++ q)) ≡ made_by (drop (suc i) (ps ++ q)) (byte_at c (get_or (ps ++ q) i [])))
            → (filter here (made_from cell 0 (ps ++ q)) ≡ [])
            ⊎ (filter here (made_from cell 0 (ps ++ q)) ≡ cell (Head (head_kind (byte_in ps i c))) i c (fate_of c (length ps) q))
        go (inl p) = inl p
        go (inr p) = inr (p ∙ there)
