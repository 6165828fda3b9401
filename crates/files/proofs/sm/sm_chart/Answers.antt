-- `files::sm::sm_chart` meets its contract, by the block that is found, its data and its type.
use Rattle.std.proofs.Common.{◌≡◌, Some, Err, sym, ap, ◌∙◌, arith, option_map, option_copied}
use Rattle.std.specs.Prelude.{slice_get}
use Rattle.definitions.specs.SmFile.{lanes_of_type}
use Rattle.files.specs.Sm.{part_of, data_part, block_parts}
use Rattle.files.proofs.Charts.{handed-on, missing, present, answer-none, answer-few, answer-other, answer-chart, data-fits}
use Rattle.files.proofs.sm.sm_chart.Goals as goal
use Rattle.files.proofs.sm.sm_chart.Goals.{In_ok-block, In_ok-data}

-- the block, and its data
found : (c : In_ok-block) → slice_get (block_parts c.args.file.now) c.args.k ≡ Some (part_of c.in_ok-block.block)
found c = sym c.nth_block.ensures ∙ ap (option_map part_of) (present _ _ _ _ c.ok_or.ensures.value c.in_ok-block.was)

data-found : (c : In_ok-data) → data_part c.in_ok-block.block.text.now ≡ Some c.in_ok-data.data.now
data-found c = sym c.note_data.ensures ∙ ap option_copied (present _ _ _ _ c.ok_or-2.ensures.value c.in_ok-data.was)

pub returns-in_err-block : goal.returns-in_err-block
returns-in_err-block c =
    let none = missing _ _ _ _ c.ok_or.ensures.value c.in_err-block.was in
    handed-on _ _ c.from_residual-in_err-block.ensures.1
    ∙ ap Err none.1
    ∙ answer-none c.args.file.now c.args.k c.in_ok-text_fits.ensures.ok (sym c.nth_block.ensures ∙ ap (option_map part_of) none.0)

pub returns-in_err-data : goal.returns-in_err-data
returns-in_err-data c =
    let none = missing _ _ _ _ c.ok_or-2.ensures.value c.in_err-data.was in
    handed-on _ _ c.from_residual-in_err-data.ensures.1
    ∙ ap Err none.1
    ∙ answer-few c.args.file.now c.args.k c.in_ok-text_fits.ensures.ok _ (found (goal.at.returns-in_err-data c).In_ok-block) (sym c.note_data.ensures ∙ ap option_copied none.0)

pub returns-in_err-lanes : goal.returns-in_err-lanes
returns-in_err-lanes c =
    let here = goal.at.returns-in_err-lanes c in
    let none = missing _ _ _ _ c.ok_or-3.ensures.value c.in_err-lanes.was in
    handed-on _ _ c.from_residual-in_err-lanes.ensures.1
    ∙ ap Err none.1
    ∙ answer-other c.args.file.now c.args.k c.in_ok-text_fits.ensures.ok _ (found here.In_ok-block) _ (data-found here.In_ok-data)
    (ap lanes_of_type (sym c.type_name.ensures) ∙ sym c.type_lanes.ensures ∙ none.0)

pub overflow_sub-result : goal.overflow_sub-result
overflow_sub-result c =
    let here = goal.at.overflow_sub-result c in
    omega (arith, data-fits c.args.file.now c.args.k c.in_ok-text_fits.ensures.ok _ (found here.In_ok-block) _ (data-found here.In_ok-data))

pub overflow_sub-result-2 : goal.overflow_sub-result-2
overflow_sub-result-2 c =
    let here = goal.at.overflow_sub-result-2 c in
    omega (arith, data-fits c.args.file.now c.args.k c.in_ok-text_fits.ensures.ok _ (found here.In_ok-block) _ (data-found here.In_ok-data))

pub returns : goal.returns
returns c =
    let here = goal.at.returns c in
    answer-chart c.args.file.now c.args.k c.in_ok-text_fits.ensures.ok _ (found here.In_ok-block) _ (data-found here.In_ok-data) _
    (ap lanes_of_type (sym c.type_name.ensures) ∙ sym c.type_lanes.ensures ∙ present _ _ _ _ c.ok_or-3.ensures.value c.in_ok-lanes.was)
