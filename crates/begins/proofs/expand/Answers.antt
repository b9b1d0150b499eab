use Rattle.std.proofs.Common.{ℕ, ◌+◌, ◌-◌, ◌≡◌, ◌∙◌, ap, List, length, get_or, take, drop, arith, rules, replicate, zero-le, length-take, length-drop, ◌<◌}
use borrow.Rule.Slice.PartMut.{put_mid}
use Rattle.std.proofs.lemmas.List.{places, get_or-replicate}
use Rattle.put.specs.Put.{Changed}
use Rattle.put.proofs.ChangeLaws.{changed-part}
use Rattle.begins.proofs.Moved.{expanded}
use Rattle.begins.proofs.expand.Goals as goal

-- An element of the part from a to b.
part : (a k : ℕ) (xs : List ℕ) (i : ℕ) → i < k → get_or (take k (drop a xs)) i 0 ≡ get_or xs (a + i) 0
part a k xs i l = search (rules, places)

pub returns : goal.returns
returns c =
    let from : ℕ = c.args.n + 1 in
    let to : ℕ = c.args.nodes in
    let old : List ℕ = c.args.begins.now in
    let mid : List ℕ = put_mid from (to - from) old c.move_later.new.begins in
    let long : length c.move_later.new.begins ≡ to - from = omega (arith, c.requires.n_lt_nodes, c.move_later.ensures.stays.long, length-take {A = ℕ}, length-drop {A = ℕ}) in
    let moved : Changed from to (λ _ begin. begin + c.args.bytes) old mid = changed-part from to old c.move_later.new.begins (omega (arith, c.requires)) (omega (arith, c.requires)) long (λ i l. c.move_later.ensures.is i zero-le (omega (arith, c.requires.n_lt_nodes, length-take {A = ℕ}, length-drop {A = ℕ})) ∙ ap (λ (b : ℕ). b + c.args.bytes) (part from (to - from) old i l)) in
    let births : length c.fill.new.self ≡ to + c.args.births - to = omega (arith, c.requires.n_lt_nodes, moved.stays.long, c.fill.ensures.len, length-take {A = ℕ}, length-drop {A = ℕ}) in
    let same : c.fill.new.self ≡ replicate (to + c.args.births - to) c.args.end = c.fill.ensures.after (λ y h. search rules) ∙ ap (λ (k : ℕ). replicate k c.args.end) (omega (arith, c.fill.ensures.len)) in
    let begun : Changed to (to + c.args.births) (λ _ _. c.args.end) mid (put_mid to (to + c.args.births - to) mid c.fill.new.self) = changed-part to (to + c.args.births) mid c.fill.new.self (omega arith) (omega (arith, c.requires.n_lt_nodes, moved.stays.long)) births (λ i l. rw (same) (get_or-replicate _ i c.args.end 0 l)) in
    expanded _ _ _ _ _ c.requires.n_lt_nodes.0 moved begun
