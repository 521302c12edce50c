use Rattle.std.proofs.Common.{◌<◌, length, vec_items, arith}
use Rattle.std.proofs.lemmas.List.{length-map, take_all}
use Rattle.byte_strings.specs.Bytes.{Bytes}
use Rattle.storage.specs.Pairs.{keys}
use Rattle.row_listing.proofs.Steps.{follows, listed_more}
use Rattle.row_listing.proofs.list_rows.Goals.{else-loop-test, then-loop-test+in_default}
use Rattle.row_listing.proofs.list_rows.Goals as goal

pub loop-preserved : goal.loop-preserved
loop-preserved g c h =
    let ps = g.R.OrderedReading.pairs c.args.file.now in
    let n = length-map ps (λ (p : Bytes × Bytes). p.0) in
    let l : c.loop.counter < length (keys ps) = omega arith in
    let listed = c.loop.invariant h in
    let f = follows (keys ps) (vec_items c.loop.rows) c.loop.counter c.deref.result.now c.last.result (g.met.R.OrderedReading.ascending c.args.file.now) listed l c.deref.ensures.value c.last.ensures.value in
    let more = listed_more (keys ps) (vec_items c.loop.rows) c.loop.counter h listed l c.in-Some.row (vec_items c.push.new.self) in
    grind arith

pub returns : goal.returns
returns g c h =
    let ps = g.R.OrderedReading.pairs c.args.file.now in
    let n = length-map ps (λ (p : Bytes × Bytes). p.0) in
    let listed = c.loop.invariant h in
    elim c.loop-test.branch [
      | else-loop-test w ↦ let end = w.loop-test.false in grind (arith, take_all)
      | then-loop-test+in_default w ↦
          let l = w.loop-test.true in
          let f = follows (keys ps) (vec_items c.loop.rows) c.loop.counter w.deref.result.now w.last.result (g.met.R.OrderedReading.ascending c.args.file.now) listed (omega arith) w.deref.ensures.value w.last.ensures.value in
          let none = w.in_default.ensures in
          grind arith
    ]
