-- Lists of entries, printed one after the other.
use Rattle.std.proofs.Common.{◌≡◌, ℕ, zero, suc, ◌+◌, ◌-◌, ◌<◌, ◌≤◌, List, length, length-append, suc-add, zero-add, arith}
use Rattle.page.specs.Texts.{listed}
use Rattle.page.specs.Prints.{Appends, Stops}
use Rattle.page.specs.declared.Page.{Page}
use Rattle.page.proofs.Pages.{keeps_then}

listed-longer : (f : ℕ → List ℕ) (i k : ℕ) → length (listed f i) ≤ length (listed f (k + i))
listed-longer f i zero = rw zero-add (omega arith)
listed-longer f i (suc k) = rw (suc-add, length-append) (omega (arith, listed-longer f i k))

-- the first entries and the next one are no longer than all
pub listed_next : (f : ℕ → List ℕ) (i n : ℕ) → i < n → length (listed f i) + length (f i) ≤ length (listed f n)
listed_next f i n h =
    let all : n - suc i + suc i ≡ n = omega arith in
    omega (arith, length-append (listed f i) (f i), rw all at (listed-longer f (suc i) (n - suc i)))

-- where the first entries are printed and the next one has no room, all have none
pub in_list : {a b c : Page} (f : ℕ → List ℕ) (i n : ℕ) → i < n → Appends a (listed f i) b → Stops b (f i) c → Stops a (listed f n) c
in_list f i n h p s =
    record {
      keeps = keeps_then p.keeps s.keeps;
      no_room = omega (arith, listed_next f i n h, p.place, p.keeps.size, s.no_room);
    }
