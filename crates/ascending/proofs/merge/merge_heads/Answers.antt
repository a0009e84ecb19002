use Rattle.std.proofs.Common.{◌≡◌, ◌≤◌, ◌+◌, min, ltb, length, rules}
use Rattle.ascending.proofs.MergingLaws.{Turn, heading-next, heads-less}
use Rattle.ascending.proofs.merge.merge_heads.Goals as goal

pub loop-x-smaller : goal.loop-x-smaller
loop-x-smaller g c =
    let value = g.T.Number.value in
    let less : c.lt.result ≡ ltb (value c.in-Some-Some.x) (value c.in-Some-Some.y) = search rules in
    let more : c.lt-in-Some-Some.result ≡ ltb (value c.in-Some-Some.y) (value c.in-Some-Some.x) = search rules in
    let t : Turn g.T.Number.value c.args.kept c.args.a.now c.args.b.now c.loop-x.at c.step-at.result =
    record { x = c.in-Some-Some.x; y = c.in-Some-Some.y; left = search rules; right = search rules; x-is = search rules; y-is = search rules; next-is = rw (less, more) at c.step-at.ensures } in
    heads-less c.loop-x.invariant.heads t

pub loop-x-preserved : goal.loop-x-preserved
loop-x-preserved g c =
    let value = g.T.Number.value in
    let less : c.lt.result ≡ ltb (value c.in-Some-Some.x) (value c.in-Some-Some.y) = search rules in
    let more : c.lt-in-Some-Some.result ≡ ltb (value c.in-Some-Some.y) (value c.in-Some-Some.x) = search rules in
    let t : Turn g.T.Number.value c.args.kept c.args.a.now c.args.b.now c.loop-x.at c.step-at.result =
    record { x = c.in-Some-Some.x; y = c.in-Some-Some.y; left = search rules; right = search rules; x-is = search rules; y-is = search rules; next-is = rw (less, more) at c.step-at.ensures } in
    let room : length c.args.a.now + length c.args.b.now ≤ length c.loop-x.out = search rules in
    let lower : g.T.Number.value c.min.result ≡ min (g.T.Number.value c.in-Some-Some.x) (g.T.Number.value c.in-Some-Some.y) = search rules in
    heading-next c.loop-x.out c.loop-x.invariant t room lower
