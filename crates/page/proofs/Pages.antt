-- What stays on a page from one write to the next, and what one write after another has written.
use Rattle.std.proofs.Common.{◌∙◌, List, ◌++◌, ℕ, length-append, arith}
use Rattle.std.proofs.lemmas.Grind.{common_steps}
use Rattle.page.specs.Prints.{Keeps, Appends}
use Rattle.page.specs.declared.Page.{Page}

pub keeps_then : {a b c : Page} → Keeps a b → Keeps b c → Keeps a c
keeps_then p q =
    record {
      same_slice = q.same_slice ∙ p.same_slice;
      size = q.size ∙ p.size;
      further = omega arith;
      before = λ k h. q.before k (omega arith) ∙ p.before k h;
      past = λ k h. q.past k h ∙ p.past k (omega arith);
    }

pub appends_then : {a b c : Page} {x y : List ℕ} → Appends a x b → Appends b y c → Appends a (x ++ y) c
appends_then {x = x} {y = y} p q =
    record {
      keeps = keeps_then p.keeps q.keeps;
      place = omega (arith, length-append x y, p.place, q.place);
      contents = grind (arith, common_steps, p.contents, q.contents);
    }
