-- `dropped::list_chart` meets its contract, by the minimised text and what the list leaves.
use mathlib.Core.Path.{◌∙◌}
use native.Mathlib.Omega.{arith}
use lib.ListN.{length}
use Rattle.dropped.proofs.Answering.{own-text, some-text, list_room, all-text, all-figures}
use Rattle.dropped.proofs.list_chart.Goals as goal

pub slice_bounds-list_heads-end : goal.slice_bounds-list_heads-end
slice_bounds-list_heads-end c = omega (arith, c.minimise-minimised.ensures.short, c.requires.text_room, c.minimise-minimised.auto.text)

pub list_heads-heads-requires : goal.list_heads-heads-requires
list_heads-heads-requires c =
    let m = c.minimise-minimised.ensures in
    record { minimised = some-text _ _ _ _ m.text_is _ m.rows; list_room = list_room _ _ _ m.rows c.args.lanes.within.0 (length c.args.list.now) c.requires.list_room }

pub returns : goal.returns
returns c =
    let k = c.minimise-minimised in
    let m = k.ensures in
    let own = own-text _ _ _ _ m.text_is _ m.rows in
    record {
      value = all-figures _ _ _ _ m.text_is (omega (arith, m.short, c.requires.text_room, k.auto.text)) m.measures m.rows (c.list_heads-heads.ensures.value _ own);
      text_after = c.zero_past.ensures ∙ all-text _ _ _ _ m.text_is m.short (length c.args.text.now) k.auto.text c.requires.text_room;
      list_after = c.list_heads-heads.ensures.list_after _ own;
    }
