use Rattle.std.proofs.Common.{arith}
use Rattle.text.proofs.TextLaws.{put-none, put_last, put-more, room-here}
use Rattle.text.proofs.+put_digits.Goals as goal

pub returns-then-left-eq0 : goal.returns-then-left-eq0
returns-then-left-eq0 t c = put-none _ _ _ _ c.if-left-eq0.true

pub returns-then-n-lt10 : goal.returns-then-n-lt10
returns-then-n-lt10 t c = put_last _ _ _ _ c.if-left-eq0.false c.if-n-lt10.true (omega arith)

pub bounds-out-k : goal.bounds-out-k
bounds-out-k t c = room-here _ _ _ _ c.if-left-eq0.false c.if-n-lt10.false c.requires c.put_digits-k.ensures.0 c.put_digits-k.ensures.1

pub returns : goal.returns
returns t c = put-more _ _ _ _ c.if-left-eq0.false c.if-n-lt10.false c.requires c.put_digits-k.ensures.0 c.put_digits-k.ensures.1
