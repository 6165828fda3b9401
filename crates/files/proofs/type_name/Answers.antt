-- `files::type_name` meets its contract: the first field is what stands before the first `:`. Assumes nothing.
use mathlib.Core.Path.{sym, ap, ◌∙◌}
use mathlib.Core.List.{List}
use Prim.Native.Nat.{ℕ}
use native.Mathlib.Omega.{arith}
use lib.ListN.{take}
use lib.Seq.{length-take-le}
use Rattle.definitions.specs.Lines.{trim}
use Rattle.definitions.specs.SmFile.{without_end_blanks, type_of}
use Rattle.definitions.proofs.Lists.{up_to-front, up_to-short}
use Rattle.files.proofs.type_name.Goals as goal

pub slice_bounds-skip_ws-end : goal.slice_bounds-skip_ws-end
slice_bounds-skip_ws-end c =
    sym (length-take-le _ _ (omega (arith, c.before_byte-n.ensures, up_to-short 58 c.args.fields.now)))

pub returns : goal.returns
unfolding type_of
returns c =
    c.trim_end.ensures
    ∙ ap {B = List ℕ} without_end_blanks c.skip_ws.ensures
    ∙ ap {B = List ℕ} (λ n. without_end_blanks (trim (take n c.args.fields.now))) c.before_byte-n.ensures
    ∙ sym (ap {B = List ℕ} (λ l. without_end_blanks (trim l)) (up_to-front 58 c.args.fields.now))
