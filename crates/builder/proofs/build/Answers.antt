use mathlib.Core.Path.{refl, ap, ◌∙◌}
use Prim.Native.Nat.{ℕ, ◌+◌}
use native.Mathlib.Omega.{arith}
use lib.ListN.{length-set}
use Rattle.graph.specs.Limits.{least_bytes}
use Rattle.builder.proofs.Start.{zeros-blank, root-begins, masks-asked, masks-filled, root-asked, started, all-stays}
use Rattle.builder.proofs.build.Goals as goal

pub fill_mentions-requires : goal.fill_mentions-requires
fill_mentions-requires c =
    let v = masks-asked c.requires.valid c.body.ensures in
    record { written = v.0; x_bound = v.1.0; x_in_bounds = v.1.1 }

pub bounds-begins-0 : goal.bounds-begins-0
bounds-begins-0 c = omega (arith, c.requires.most_nodes_in_bounds)

pub put_root-requires : goal.put_root-requires
put_root-requires c = root-asked c.requires.valid c.variable_count-vars.ensures.0 c.args.nb.now c.requires.m_bound.0 c.requires.m_bound.1

pub grow-requires : goal.grow-requires
grow-requires c = record {
  masks_of = masks-filled c.requires.valid c.body.ensures _ c.fill_mentions.ensures;
  working = started c.requires.valid c.variable_count-vars.ensures.0 _ c.requires.m_bound.0 c.requires.m_bound.1 c.body-2.ensures c.put_root.ensures c.requires.m_bound.2
      zeros-blank zeros-blank (root-begins c.args.begins.now c.requires.most_nodes_in_bounds) _ refl (ap (λ (k : ℕ). least_bytes + k) c.node_size.ensures.0) refl refl refl refl refl;
}

pub shape_of-begins : goal.shape_of-begins
shape_of-begins c = c.begins-1.given ∙ length-set c.args.begins.now 0 0

pub shape_of-nb : goal.shape_of-nb
shape_of-nb c = c.nb-2-1.given ∙ c.nb-1.given

pub returns : goal.returns
returns c = record { nb_after = c.grow.ensures.nb_after; grown = c.grow.ensures.grown; stays = all-stays c.requires.valid c.variable_count-vars.ensures.0 _ c.requires.m_bound.0 c.requires.m_bound.1 c.body-2.ensures c.put_root.ensures c.grow.ensures.grown c.grow.ensures.stays }
