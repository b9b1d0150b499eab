use native.Mathlib.Omega.{arith}
use Rattle.slots.specs.Nodes.{label_in}
use Rattle.index.specs.Ready.{nodes_in}
use Rattle.index.proofs.TwinLaws.{Own}
use Rattle.index.proofs.CodeLaws.{own_in, visit-covered, visit-first, visit-again}
use Rattle.index.proofs.visit.Goals as goal

pub returns-then-field-eq-COVERED : goal.returns-then-field-eq-COVERED
returns-then-field-eq-COVERED c =
    let r = visit-covered c.args.vars c.args.nb.now c.args.n c.requires.seen c.args.count c.args.listing.now c.node_size.ensures.0 c.field.ensures.0 c.if-field-eq-COVERED.true in
    record { value = r.0; listing_after = r.1.0; seen_2 = r.1.1 }

pub bounds-seen-r : goal.bounds-seen-r
bounds-seen-r c =
    let own : Own (label_in c.args.vars c.args.nb.now) (nodes_in c.args.vars c.args.nb.now) c.args.n c.find_node-r.result = own_in c.args.vars c.args.nb.now c.args.slots.now c.requires.indexed c.args.n c.requires.n_bound.0 c.find_node-r.ensures in
    omega (arith, own.small, c.requires.seen.long)

pub bounds-seen-r-then-seen-r-eq0 : goal.bounds-seen-r-then-seen-r-eq0
bounds-seen-r-then-seen-r-eq0 c =
    let own : Own (label_in c.args.vars c.args.nb.now) (nodes_in c.args.vars c.args.nb.now) c.args.n c.find_node-r.result = own_in c.args.vars c.args.nb.now c.args.slots.now c.requires.indexed c.args.n c.requires.n_bound.0 c.find_node-r.ensures in
    omega (arith, own.small, c.requires.seen.long)

pub returns-then-seen-r-eq0 : goal.returns-then-seen-r-eq0
returns-then-seen-r-eq0 c =
    let own : Own (label_in c.args.vars c.args.nb.now) (nodes_in c.args.vars c.args.nb.now) c.args.n c.find_node-r.result = own_in c.args.vars c.args.nb.now c.args.slots.now c.requires.indexed c.args.n c.requires.n_bound.0 c.find_node-r.ensures in
    let r = visit-first c.args.vars c.args.nb.now c.args.n c.requires.seen c.args.count c.args.listing.now c.node_size.ensures.0 c.field.ensures.0 c.if-field-eq-COVERED.false own c.if-seen-r-eq0.true in
    record { value = r.0; listing_after = r.1.0; seen_2 = r.1.1 }

pub returns : goal.returns
returns c =
    let own : Own (label_in c.args.vars c.args.nb.now) (nodes_in c.args.vars c.args.nb.now) c.args.n c.find_node-r.result = own_in c.args.vars c.args.nb.now c.args.slots.now c.requires.indexed c.args.n c.requires.n_bound.0 c.find_node-r.ensures in
    let r = visit-again c.args.vars c.args.nb.now c.args.n c.requires.seen c.args.count c.args.listing.now c.node_size.ensures.0 c.field.ensures.0 c.if-field-eq-COVERED.false own c.if-seen-r-eq0.false in
    record { value = r.0; listing_after = r.1.0; seen_2 = r.1.1 }
