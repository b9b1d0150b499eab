use native.Mathlib.Omega.{arith}
use mathlib.Core.Path.{◌≡◌, refl, sym}
use Prim.Native.Nat.{ℕ}
use lib.ListN.{length, take, replicate}
use Rattle.model.proofs.Limits.{limits}
use Rattle.graph.specs.Limits.{most_nodes}
use Rattle.index.specs.Ready.{Indexed}
use Rattle.index.proofs.CallLaws.{some-variable, same_whole}
use Rattle.index.proofs.CodeLaws.{prefix-long}
use Rattle.index.proofs.BodyLaws.{slots-are, indexed, listing-fits, answers-are, shared-are, listing-are}
use Rattle.index.proofs.fill_rows.Goals as goal

pub slice_bounds-room-end : goal.slice_bounds-room-end
slice_bounds-room-end c = omega (arith, c.node_count-nodes.ensures, c.requires.valid.rows.folder.few)

pub hash_all-requires : goal.hash_all-requires
hash_all-requires c =
    let room-long : length (take c.node_count-nodes.result (replicate {A = ℕ} most_nodes 0)) ≡ c.node_count-nodes.result = prefix-long _ most_nodes 0 (omega (arith, c.node_count-nodes.ensures, c.requires.valid.rows.folder.few)) in
    (omega (arith, c.variable_count-vars.ensures.0, (limits c.requires.valid.model.folder).variables), omega (arith, room-long))

pub enter_all-requires : goal.enter_all-requires
enter_all-requires c = (omega (arith, c.variable_count-vars.ensures.0, (limits c.requires.valid.model.folder).variables), omega (arith, c.node_count-nodes.ensures, c.requires.valid.rows.folder.few, c.requires.index_right.slots-long), omega (arith, c.node_count-nodes.ensures, c.requires.valid.rows.folder.few), c.hash_all.ensures)

pub answer_batch-requires : goal.answer_batch-requires
answer_batch-requires c = let indexed-here : Indexed c.variable_count-vars.result c.body-nb.result.now c.hash_all.new.hashes c.enter_all.new.row =
    indexed c.args.m.now c.args.g.now c.variable_count-vars.ensures.0 c.body-nb.ensures c.args.slots.now c.node_count-nodes.ensures c.requires.index_right.slots-long c.enter_all.ensures c.requires.valid c.hash_all.ensures c.enter_all.auto.row in
    record { indexed = indexed-here; vars_nonzero = (omega (arith, c.variable_count-vars.ensures.0, some-variable c.requires.valid.model), omega (arith, same_whole (length c.args.batch.now) (length c.args.batch.now) _ _ refl c.variable_count-vars.ensures.0, c.requires.index_right.answers-long)) }

pub list_twins-requires : goal.list_twins-requires
list_twins-requires c = let indexed-here : Indexed c.variable_count-vars.result c.body-nb.result.now c.hash_all.new.hashes c.enter_all.new.row =
    indexed c.args.m.now c.args.g.now c.variable_count-vars.ensures.0 c.body-nb.ensures c.args.slots.now c.node_count-nodes.ensures c.requires.index_right.slots-long c.enter_all.ensures c.requires.valid c.hash_all.ensures c.enter_all.auto.row in
    record { indexed = indexed-here; nb_in_bounds = listing-fits c.args.m.now c.args.g.now c.variable_count-vars.ensures.0 c.body-nb.ensures c.args.listing.now c.requires.index_right.listing-long }

pub returns : goal.returns
returns c =
    let m = c.args.m.now in
    let g = c.args.g.now in record { value = shared-are m g c.variable_count-vars.ensures.0 c.body-nb.ensures c.list_twins.ensures.value; slots_after = slots-are m g c.variable_count-vars.ensures.0 c.body-nb.ensures c.args.slots.now c.node_count-nodes.ensures c.requires.index_right.slots-long c.enter_all.ensures; answers_after = answers-are m g c.variable_count-vars.ensures.0 c.body-nb.ensures c.args.batch.now c.args.answers.now c.answer_batch.ensures; listing_after = listing-are m g c.variable_count-vars.ensures.0 c.body-nb.ensures c.args.listing.now c.list_twins.ensures.listing_after }

pub slice_bounds-hashes-end : goal.slice_bounds-hashes-end
slice_bounds-hashes-end c =
    let room-long : length (take c.node_count-nodes.result (replicate {A = ℕ} most_nodes 0)) ≡ c.node_count-nodes.result = prefix-long _ most_nodes 0 (omega (arith, c.node_count-nodes.ensures, c.requires.valid.rows.folder.few)) in
    sym room-long
