use Rattle.std.proofs.Common.{◌≡◌, [], ◌∷◌, Option, None, Some, rules, refl, subst, sym}
use Rattle.page.specs.declared.point.Point.{Point}
use Rattle.picture.specs.Tracks.{last_of, turned}
use Rattle.picture.proofs.track.step_on.Goals as goal
use Rattle.picture.proofs.track.step_on.Goals.{in-Some+in_ok-push, in_default}

pub returns : goal.returns
returns c = elim c.match-last.branch [
  | in-Some+in_ok-push w ↦
      let turn = w.level_with-turn.result in
      let last : last_of c.args.line.now.items ≡ Some w.in-Some.last.now = search (rules, w.in-Some.is, w.in-Some.ensures.value, c.deref.ensures.value) in
      record {
        next = c.point-next.result;
        across = c.point-next.ensures.across;
        height = c.point-next.ensures.height;
        turns = turn ∷ [];
        turned = subst (λ (o : Option Point). turned c.point-next.result o (turn ∷ [])) (sym last)
            (turn, w.level_with-turn.ensures.0, w.level_with-turn.ensures.1, refl);
        goes_on = search (rules, w.line-is, w.in_ok-push.ensures.items, c.in_ok-push-2.ensures.items);
      }
  | in_default w ↦
      let none : last_of c.args.line.now.items ≡ None = search (rules, w.in_default.is, w.in_default.ensures.value, c.deref.ensures.value) in
      record {
        next = c.point-next.result;
        across = c.point-next.ensures.across;
        height = c.point-next.ensures.height;
        turns = [];
        turned = subst (λ (o : Option Point). turned c.point-next.result o []) (sym none) refl;
        goes_on = search (rules, w.line-is, c.in_ok-push-2.ensures.items);
      }
]
