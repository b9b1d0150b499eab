use Prim.Native.Nat.{ℕ}
use mathlib.Core.Path.{sym, ap, ◌∙◌}
use borrow.Author.Tests.{eq-eqb, ne_eqb}
use lib.Dec.{eqb}
use Rattle.wants.proofs.Here.{flagged-up}
use Rattle.wants.proofs.ask.Goals as goal

pub returns-then-byte_at-eq1 : goal.returns-then-byte_at-eq1
returns-then-byte_at-eq1 c = record { value = flagged-up c.requires.node_read c.requires.e_bound (eq-eqb _ 1 (sym c.byte_at.ensures.0 ∙ c.if-byte_at-eq1.true)); label_flagged = c.requires.node_read.flagged }

pub widen-requires : goal.widen-requires
widen-requires c = record { node_read = c.requires.node_read; e_bound = (c.requires.e_bound, ne_eqb _ 1 (λ q. c.if-byte_at-eq1.false (c.byte_at.ensures.0 ∙ q))) }

pub returns : goal.returns
returns c = record { value = ap (λ (z : ℕ). eqb z 1) c.byte_at-2.ensures.0 ∙ c.widen.ensures.decided; label_flagged = c.widen.ensures.flagged }
