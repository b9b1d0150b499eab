use mathlib.Core.Path.{◌≡◌, refl, ◌∙◌, ap}
use Prim.Native.Nat.{ℕ}
use native.Mathlib.Omega.{arith}
use Rattle.folder.specs.Contents.{count_of}
use Rattle.index.specs.Ready.{nodes_in}
use Rattle.folder.proofs.ListLaws.{list-start, list-room, list-next, list_count, list_over}
use Rattle.index.proofs.list_all.Goals as goal

pub loop-n-init : goal.loop-n-init
loop-n-init c = (list-start _ _ _, (c.requires.seen, refl))

pub visit-count-requires : goal.visit-count-requires
visit-count-requires c = let nodes-are : c.count_of-nodes.result ≡ nodes_in c.args.vars c.args.nb.now = c.count_of-nodes.ensures ∙ ap (λ (z : ℕ). count_of z c.args.nb.now) c.node_size.ensures.0 in record { indexed = c.requires.indexed; n_bound = (omega (arith, c.loop-n-test.true, nodes-are), list-room c.loop-n.invariant.0 c.loop-n-test.true (omega (arith, nodes-are, c.requires.nb_in_bounds))); seen = c.loop-n.invariant.1.0 }

pub loop-n-preserved : goal.loop-n-preserved
loop-n-preserved c =
    let nodes-are : c.count_of-nodes.result ≡ nodes_in c.args.vars c.args.nb.now = c.count_of-nodes.ensures ∙ ap (λ (z : ℕ). count_of z c.args.nb.now) c.node_size.ensures.0 in (
      list-next c.loop-n.invariant.0 c.loop-n-test.true (omega (arith, nodes-are, c.requires.nb_in_bounds)) c.visit-count.ensures.value c.visit-count.ensures.listing_after,
      (c.visit-count.ensures.seen_2, c.visit-count.auto.seen ∙ c.loop-n.invariant.1.1),
    )

pub shape_of-seen : goal.shape_of-seen
shape_of-seen c = c.loop-n.invariant.1.1

pub shape_of-listing : goal.shape_of-listing
shape_of-listing c = c.loop-n.invariant.0.long

pub returns : goal.returns
returns c = let nodes-are : c.count_of-nodes.result ≡ nodes_in c.args.vars c.args.nb.now = c.count_of-nodes.ensures ∙ ap (λ (z : ℕ). count_of z c.args.nb.now) c.node_size.ensures.0 in record { value = list_count c.loop-n.invariant.0 c.loop-n-test.false nodes-are; listing_after = list_over c.loop-n.invariant.0 c.loop-n-test.false nodes-are }
