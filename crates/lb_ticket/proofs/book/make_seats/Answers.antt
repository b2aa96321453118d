-- For `make_seats` of src/book.rt: the seats, made from the root.
use Rattle.std.proofs.Common.{rules, ◌≡◌, ℕ, ◌+◌, ◌-◌, ◌∷◌, ◌++◌, [], List, set, refl, sym, ap, ◌∙◌, subst, arith}
use mathlib.Core.Option.{some}
use lib.ListN.{get_elem?}
use Rattle.lb_ticket.specs.declared.view.Bare.{Bare}
use Rattle.lb_ticket.specs.Bare.{bare_root, bare_cut_left, bare_cut_right, BareKept}
use Rattle.lb_ticket.proofs.BareKeeping.{bare_seats}
use Rattle.lb_ticket.proofs.SeatLists.{numbered_snoc, empty_snoc}
use Rattle.lb_ticket.proofs.book.make_seats.Goals as goal

pub split_seat-token-requires : goal.split_seat-token-requires
split_seat-token-requires g c =
    let inv = c.loop-number.invariant in
    let m = g.I.Item.means in
    let ci = g.row.I.coded in
    let cl = g.row.I-Left.coded in
    let n = c.loop-number.number in (
      inv.0,
      (let w = c.requires.table.1 in omega arith),
      λ s h at.
          subst
          (λ (me : Bare × List (ℕ × Unit {0})).
          get_elem? s.views c.loop-number.root.id ≡ some me.0 →
          BareKept m ci cl c.args.shared.now.key s.words
          (set s.views c.loop-number.root.id (bare_cut_left me.0) ++ bare_cut_right me.0 ∷ []))
          (sym inv.1)
          (λ a.
          bare_seats m ci cl c.args.shared.now.key c.loop-number.root.id n (c.args.owners - n)
          (let t = c.loop-number-test.true in omega arith) s.words s.views h a)
          at,
    )

pub loop-number-preserved : goal.loop-number-preserved
loop-number-preserved g c =
    let inv = c.loop-number.invariant in
    let e = c.split_seat-token.ensures in
    let n = c.loop-number.number in
    let o = c.args.owners in
    let right = e.4 ∙ ap (λ (me : Bare × List (ℕ × Unit {0})). (bare_cut_right me.0, [])) inv.1 in (
      e.0 ∙ inv.0,
      e.2 ∙ ap (λ (me : Bare × List (ℕ × Unit {0})). (bare_cut_left me.0, me.1)) inv.1
          ∙ ap (λ (z : ℕ). (bare_root (n + 1) z, [])) (let z : o - n - 1 ≡ o - (n + 1) = omega arith in z),
      rw c.push_reserved.ensures.items (numbered_snoc _ _ _ _ inv.2 (e.3 ∙ inv.0) (let l = inv.4 in omega arith)),
      rw c.push_reserved.ensures.items
          (empty_snoc _ _ inv.3 c.new.ensures.items refl (ap (λ me. me.0.fresh) right) (ap (λ me. me.0.known) right)
          (ap (λ me. me.0.read) right)),
      search rules,
      search rules,
    )
