-- For `Known::add` of src/history.rt: adds a version to what is known, and says whether it did.
use Rattle.std.proofs.Common.{sym, ◌∙◌, ap}
use Rattle.lb_topub.proofs.Adding.{adds_moves}
use Rattle.lb_topub.proofs.history.Known.add.Goals as goal

pub compare_exchange-found-requires : goal.compare_exchange-found-requires
compare_exchange-found-requires c =
    let h = c.requires.head in
    let offer = c.plain-offer.ensures in
    let pen = c.no_pen-pen.ensures in
    let book = ap (λ k. k.book) c.self.view_is in (
      ap (λ w. w.tracked) h,
      book ∙ sym (ap (λ w. w.book) h),
      pen.0 ∙ (book ∙ sym (ap (λ w. w.book) h)),
      offer.0,
      rw (ap (λ w. w.key) h, pen.1, offer.1, offer.3)
          (adds_moves c.self.inside.seen.log c.args.next.now c.self.inside.count (sym c.self.invariant)),
    )
