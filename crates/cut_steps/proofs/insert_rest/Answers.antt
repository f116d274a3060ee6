-- None, one or two insertions: by how often the high knot stood, each is the next of those that the whole curve takes.
use mathlib.Core.Path.{◌≡◌}
use native.Mathlib.Omega.{arith}
use borrow.Author.Rules.{rules}
use Rattle.std.specs.Prelude.{Err}
use Rattle.curve.specs.Lists.{lists}
use Rattle.insertion.specs.Insertion.{inserted}
use Rattle.cut_steps.specs.Step.{high_of}
use Rattle.cut_steps.proofs.FillLaws.{fills-none, fills-once, two, fills-broken, fills-twice}
use Rattle.cut_steps.proofs.insert_rest.Goals as goal

pub returns-then-s-m : goal.returns-then-s-m
returns-then-s-m c = record {
  answer = let a = c.args in
      λ cx cy d k st. fills-none a.m (lists a.knots.now cx cy) d a.i k a.s a.cut st c.if-s-m.true;
}

pub returns-in_err-once : goal.returns-in_err-once
returns-in_err-once c = record {
  answer = let a = c.args in
      let refused = c.in_err-once.field-0.0 in
      let same : c.from_residual.result ≡ Err refused = search rules in
      λ cx cy d k st. rw same (fills-broken a.m (lists a.knots.now cx cy) d a.i k a.s a.cut st refused c.if-s-m.false c.requires.1 (c.in_err-once.ensures.answer cx cy d k st));
}

pub returns-then-s-m-2 : goal.returns-then-s-m-2
returns-then-s-m-2 c = record {
  answer = let a = c.args in
      λ cx cy d k st. fills-once a.m (lists a.knots.now cx cy) d a.i k a.s a.cut st c.in_ok-once.once c.if-s-m-2.true (c.in_ok-once.ensures.answer cx cy d k st);
}

pub insert_once-requires-2 : goal.insert_once-requires-2
insert_once-requires-2 c = let a = c.args in
    let asked = c.requires in
    let p = asked.0 in
    let stands = (c.in_ok-once.ensures.answer p.0 p.1 p.2 p.3 p.4).goes in
    ((p.0, p.1, inserted a.m p.2 (high_of (lists a.knots.now p.0 p.1) a.i), p.3, stands), omega (arith, asked.1, c.if-s-m.false, c.if-s-m-2.false))

pub returns : goal.returns
returns c = record {
  answer = let a = c.args in
      λ cx cy d k st.
      let first = c.in_ok-once.ensures.answer cx cy d k st in
      fills-twice a.m (lists a.knots.now cx cy) d a.i k a.s a.cut st c.in_ok-once.once c.insert_once-2.result (two a.m (lists a.knots.now cx cy) d a.i k a.s a.cut st c.if-s-m.false c.if-s-m-2.false c.requires.1) first
      (c.insert_once-2.ensures.answer cx cy (inserted a.m d (high_of (lists a.knots.now cx cy) a.i)) k first.goes);
}
