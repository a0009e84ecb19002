use Rattle.std.proofs.Common.{rules, length, map, ◌≤◌, ◌⊎◌, inl, inr}
use Rattle.std.proofs.lemmas.List.{length-map}
use Rattle.ascending.proofs.MergingLaws.{Turn, heads-next, heads-less, heads-count}
use Rattle.ascending.proofs.merge.merge_count.Goals as goal
use Rattle.ascending.proofs.merge.merge_count.Goals.{in_default, in_default-2}

pub loop-x-smaller : goal.loop-x-smaller
loop-x-smaller g c =
    let t : Turn g.T.Number.value c.args.kept c.args.a.now c.args.b.now c.loop-x.at c.step-at.result =
    record { x = c.in-Some-Some.x.now; y = c.in-Some-Some.y.now; left = search rules; right = search rules; x-is = search rules; y-is = search rules; next-is = search rules } in
    heads-less c.loop-x.invariant t

pub loop-x-preserved : goal.loop-x-preserved
loop-x-preserved g c =
    let t : Turn g.T.Number.value c.args.kept c.args.a.now c.args.b.now c.loop-x.at c.step-at.result =
    record { x = c.in-Some-Some.x.now; y = c.in-Some-Some.y.now; left = search rules; right = search rules; x-is = search rules; y-is = search rules; next-is = search rules } in
    heads-next c.loop-x.invariant t

pub returns : goal.returns
returns g c =
    let n = g.met.T.Number in
    let value = g.T.Number.value in
    let ended : (length (map value c.args.a.now) ≤ c.loop-x.at.left) ⊎ (length (map value c.args.b.now) ≤ c.loop-x.at.right) =
    elim c.match-get.branch [ in_default w ↦ inr (rw length-map (search rules)) | in_default-2 w ↦ inl (rw length-map (search rules)) ] in
    rw (n.each c.args.a.now, n.each c.args.b.now, c.left-2.ensures, c.left.ensures) (simp length-map at (heads-count c.loop-x.invariant ended))
