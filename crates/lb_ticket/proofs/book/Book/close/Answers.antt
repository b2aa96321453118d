-- For `Book::close` of src/book.rt: takes all seats back, in the order of their numbers, and answers their
-- lists.
use Rattle.std.proofs.Common.{rules, ◌⊎◌, ◌≡◌, ◌+◌, ◌∷◌, ◌++◌, [], length, map, reverse, sym, ap, ◌∙◌, subst, arith, length-append, append_assoc}
use Rattle.std.proofs.lemmas.List.{map-append, reverse-append, length-reverse, length-map}
use Rattle.lb_ticket.specs.Tickets.{Among}
use Rattle.lb_ticket.specs.Bare.{bare_columns_of}
use Rattle.lb_ticket.specs.Facts.{held_of}
use Rattle.lb_ticket.specs.Seats.{Numbered, all_facts, all_read}
use Rattle.lb_ticket.proofs.BareKeeping.{bare_gathers, bare_closes, bare_holds, bare_read}
use Rattle.lb_ticket.proofs.Members.{has_joined, has_either, gathered_at}
use Rattle.lb_ticket.proofs.Closed.{holds_direct}
use Rattle.lb_ticket.proofs.SeatLists.{numbered_last, bare_column_step, gathered_first, gathered_step, gathered_none}
use Rattle.lb_ticket.proofs.book.Book.close.Goals as goal

pub join_seat-requires : goal.join_seat-requires
join_seat-requires g c =
    let inv = c.loop-seat.invariant in
    let m = g.I.Item.means in
    let ci = g.row.I.coded in
    let cl = g.row.I-Left.coded in
    let num =
    numbered_last c.args.self.table 0 _ _
    (subst (Numbered c.args.self.table 0) c.in-Some-pop.ensures.items inv.5) in
    let s = c.seat.inside in (
      inv.1 ∙ sym inv.0,
      ap (λ x. x.table) c.seat.view_is ∙ num.1 ∙ sym inv.0,
      c.seat.invariant.0.2,
      (let w = c.self.invariant.0 in omega arith),
      λ st h at apart there.
          bare_gathers m ci cl c.self.inside.table.shared.key c.loop-seat.root.id s.token.id c.loop-seat.root.me.0
          s.token.me.0 c.seat.invariant.0.1 st.words st.views h at apart there,
    )

pub loop-seat-init : goal.loop-seat-init
loop-seat-init g c =
    let m = g.I.Item.means in
    let ci = g.row.I.coded in
    let cl = g.row.I-Left.coded in
    let t = c.args.self.table in
    let num = numbered_last t 0 _ _ (subst (Numbered t 0) c.in-Some.ensures.items c.requires.seats.0) in
    let s = c.last.inside in
    let of : c.push_reserved.new.self.items ≡ s.list ∷ [] =
    c.push_reserved.ensures.items ∙ ap (λ l. l ++ s.list ∷ []) c.self.invariant.4 in
    let len : length c.args.seats.items ≡ length c.pop.new.self.items + 1 =
    ap (λ l. length l) c.in-Some.ensures.items ∙ length-append c.pop.new.self.items (c.in-Some.last ∷ []) in (
      ap (λ x. x.table) c.self.view_is,
      ap (λ x. x.table) c.last.view_is ∙ num.1,
      c.last.invariant.0.2,
      c.last.invariant.0.1,
      c.last.invariant.0.0
          ∙ ap (λ n. record {
            owner = n;
            drawn = map (held_of g.row.I.coded) s.list.items;
          } ∷ []) (ap (λ x. x.number) c.last.view_is ∙ (let e =
          num.2 in let n : c.in-Some.last.number ≡ length c.pop.new.self.items = omega arith in n))
          ∙ ap (λ l. bare_columns_of g.row.I.coded (length c.pop.new.self.items) (map (λ v. v.items) (reverse l)))
          (sym of),
      num.0,
      (let p = ap (λ l. length l) of in let r = c.requires.seats.1 in omega (arith, len)),
      search rules,
      gathered_first (λ x. x.fresh ++ x.known) _ _ _ _ c.in-Some.ensures.items c.last.view_is,
      gathered_first (λ x. x.read) _ _ _ _ c.in-Some.ensures.items c.last.view_is,
      ap (λ l. map (λ x. x.list) l) c.in-Some.ensures.items
          ∙ map-append (λ x. x.list) c.pop.new.self.items (c.in-Some.last ∷ [])
          ∙ ap (λ z. map (λ x. x.list) c.pop.new.self.items ++ z ∷ []) (sym (ap (λ x. x.list) c.last.view_is))
          ∙ ap (λ l. map (λ x. x.list) c.pop.new.self.items ++ map (λ v. v.items) (reverse l)) (sym of),
    )

pub loop-seat-preserved : goal.loop-seat-preserved
loop-seat-preserved g c =
    let inv = c.loop-seat.invariant in
    let s = c.seat.inside in
    let num =
    numbered_last c.args.self.table 0 _ _
    (subst (Numbered c.args.self.table 0) c.in-Some-pop.ensures.items inv.5) in
    let e = c.join_seat.ensures in
    let root = c.loop-seat.root.me.0 in
    let len : length c.loop-seat.seats.items ≡ length c.pop-in-loop-seat.new.self.items + 1 =
    ap (λ l. length l) c.in-Some-pop.ensures.items
    ∙ length-append c.pop-in-loop-seat.new.self.items (c.in-Some-pop.seat ∷ []) in (
      inv.0,
      e.0 ∙ inv.1,
      ap (λ me. me.1) e.2 ∙ inv.2,
      ap (λ me. me.0.vacant) e.2 ∙ inv.3,
      ap (λ me. me.0.columns) e.2
          ∙ bare_column_step g.row.I.coded (length c.loop-seat.seats.items) s.number
          (length c.pop-in-loop-seat.new.self.items) s.list.items _ _ _ c.seat.invariant.0.0 inv.4
          (ap (λ x. x.number) c.seat.view_is ∙ (let n = num.2 in omega arith)) len
          ∙ ap (λ l. bare_columns_of g.row.I.coded (length c.pop-in-loop-seat.new.self.items) (map (λ v. v.items) l))
          (sym (reverse-append c.loop-seat.of.items (s.list ∷ []))
          ∙ ap (λ l. reverse l) (sym c.push_reserved-in-Some-pop.ensures.items)),
      num.0,
      (let i = inv.6 in
          let p = ap (λ l. length l) c.push_reserved-in-Some-pop.ensures.items in
          omega (arith, len, length-append c.loop-seat.of.items (s.list ∷ []))),
      search rules,
      (λ f h.
          subst (λ me. Among f (all_facts c.pop-in-loop-seat.new.self.items) ⊎ Among f (me.0.fresh ++ me.0.known))
          (sym e.2)
          (gathered_step (λ x. x.fresh ++ x.known) _ _ _ _
          (root.fresh ++ root.known) _ c.in-Some-pop.ensures.items c.seat.view_is f
          (has_joined root.fresh root.known s.token.me.0.fresh s.token.me.0.known f) (inv.8 f h))),
      (λ h r.
          subst (λ me. Among h (all_read c.pop-in-loop-seat.new.self.items) ⊎ Among h me.0.read) (sym e.2)
          (gathered_step (λ x. x.read) _ _ _ _ root.read _ c.in-Some-pop.ensures.items c.seat.view_is h
          (has_either root.read s.token.me.0.read h) (inv.9 h r))),
      inv.10
          ∙ ap (λ l. map (λ x. x.list) l ++ map (λ v. v.items) (reverse c.loop-seat.of.items))
          c.in-Some-pop.ensures.items
          ∙ ap (λ l. l ++ map (λ v. v.items) (reverse c.loop-seat.of.items))
          (map-append (λ x. x.list) c.pop-in-loop-seat.new.self.items (c.in-Some-pop.seat ∷ []))
          ∙ append_assoc (map (λ x. x.list) c.pop-in-loop-seat.new.self.items) (c.in-Some-pop.seat.list ∷ [])
          (map (λ v. v.items) (reverse c.loop-seat.of.items))
          ∙ ap (λ l. map (λ x. x.list) c.pop-in-loop-seat.new.self.items ++ l)
          (ap (λ z. z ∷ map (λ v. v.items) (reverse c.loop-seat.of.items)) (sym (ap (λ x. x.list) c.seat.view_is))
          ∙ ap (λ l. map (λ v. v.items) l)
          (sym (reverse-append c.loop-seat.of.items (s.list ∷ []))
          ∙ ap (λ l. reverse l) (sym c.push_reserved-in-Some-pop.ensures.items))),
    )

pub returns-clause-tickets : goal.returns-clause-tickets
returns-clause-tickets g c =
    let m = g.I.Item.means in
    let w = c.close_with.ensures.values.2 in
    let inv = c.loop-seat.invariant in
    let none : length c.loop-seat.seats.items ≡ 0 = search rules in
    let same : c.reverse.new.self.items ≡ reverse c.loop-seat.of.items = c.reverse.ensures.items in
    bare_closes m g.row.I.coded g.row.I-Left.coded c.self.inside.table.shared.key c.loop-seat.root.id
    c.loop-seat.root.me.0 (map (λ v. v.items) c.reverse.new.self.items) w.0.words w.0.views w.1.0 w.1.1 inv.3
    (inv.4 ∙ ap (λ n. bare_columns_of g.row.I.coded n (map (λ v. v.items) (reverse c.loop-seat.of.items))) none
    ∙ ap (λ l. bare_columns_of g.row.I.coded 0 (map (λ v. v.items) l)) (sym same))
    (let i = inv.6 in
    let k : c.self.inside.table.shared.key ≡ c.args.self.owners =
    c.self.invariant.2 ∙ ap (λ x. x.owners) c.self.view_is in
    let l = length-map c.reverse.new.self.items (λ v. v.items) in
    let r = ap (λ l. length l) same ∙ length-reverse c.loop-seat.of.items in
    omega arith)

pub returns-clause-quotes : goal.returns-clause-quotes
returns-clause-quotes g c = holds_direct g.I.Item.means _ (returns-clause-tickets g c)

pub returns-clause-unquoted : goal.returns-clause-unquoted
returns-clause-unquoted g c f h =
    let m = g.I.Item.means in
    let w = c.close_with.ensures.values.2 in
    let inv = c.loop-seat.invariant in
    let none : length c.loop-seat.seats.items ≡ 0 = search rules in
    let same : c.reverse.new.self.items ≡ reverse c.loop-seat.of.items = c.reverse.ensures.items in
    bare_holds m g.row.I.coded g.row.I-Left.coded c.self.inside.table.shared.key c.loop-seat.root.id
    c.loop-seat.root.me.0 (map (λ v. v.items) c.reverse.new.self.items) w.0.words w.0.views w.1.0 w.1.1 inv.3
    (inv.4 ∙ ap (λ n. bare_columns_of g.row.I.coded n (map (λ v. v.items) (reverse c.loop-seat.of.items))) none
    ∙ ap (λ l. bare_columns_of g.row.I.coded 0 (map (λ v. v.items) l)) (sym same))
    (let i = inv.6 in
    let k : c.self.inside.table.shared.key ≡ c.args.self.owners =
    c.self.invariant.2 ∙ ap (λ x. x.owners) c.self.view_is in
    let l = length-map c.reverse.new.self.items (λ v. v.items) in
    let r = ap (λ l. length l) same ∙ length-reverse c.loop-seat.of.items in
    omega arith)
    f
    (gathered_none (λ x. x.fresh ++ x.known) c.loop-seat.seats.items f
    (c.loop-seat.root.me.0.fresh ++ c.loop-seat.root.me.0.known) none (inv.8 f h))

pub returns-clause-read : goal.returns-clause-read
returns-clause-read g c k d lt h r =
    let m = g.I.Item.means in
    let w = c.close_with.ensures.values.2 in
    let inv = c.loop-seat.invariant in
    let none : length c.loop-seat.seats.items ≡ 0 = search rules in
    let same : c.reverse.new.self.items ≡ reverse c.loop-seat.of.items = c.reverse.ensures.items in
    bare_read m g.row.I.coded g.row.I-Left.coded c.self.inside.table.shared.key c.loop-seat.root.id
    c.loop-seat.root.me.0 (map (λ v. v.items) c.reverse.new.self.items) w.0.words w.0.views w.1.0 w.1.1 inv.3
    (inv.4 ∙ ap (λ n. bare_columns_of g.row.I.coded n (map (λ v. v.items) (reverse c.loop-seat.of.items))) none
    ∙ ap (λ l. bare_columns_of g.row.I.coded 0 (map (λ v. v.items) l)) (sym same))
    (let i = inv.6 in
    let k : c.self.inside.table.shared.key ≡ c.args.self.owners =
    c.self.invariant.2 ∙ ap (λ x. x.owners) c.self.view_is in
    let l = length-map c.reverse.new.self.items (λ v. v.items) in
    let q = ap (λ l. length l) same ∙ length-reverse c.loop-seat.of.items in
    omega arith)
    h
    (gathered_none (λ x. x.read) c.loop-seat.seats.items h c.loop-seat.root.me.0.read none
    (inv.9 h (gathered_at (λ x. x.read) d c.args.seats.items k h lt r)))
