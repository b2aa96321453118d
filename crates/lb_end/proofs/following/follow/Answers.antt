-- For `follow` of src/following.rt: the seat of one owner reads what another drew so far: its next ticket is
-- above all of that, and not below the other's next one.
use Rattle.std.proofs.Common.{ℕ, ◌≡◌, ◌<◌, ◌+◌, ◌++◌, length, get_or, refl, sym, subst, ap, ◌∙◌, arith}
use Rattle.std.proofs.lemmas.List.{length-append}
use Rattle.lb_journal.specs.declared.journal.Journal.{the_code}
use Rattle.lb_end.proofs.Seating.{numbered_at, other_below, in_low, in_high, set_low, set_high, followed}
use Rattle.lb_end.proofs.following.follow.Goals as goal

pub follow-requires : goal.follow-requires
follow-requires c =
    let cut = c.split_at_mut-low in
    let ss = c.args.seats.now in
    let whole = sym cut.ensures.value in
    let la = in_low ss cut.result.0.now cut.result.1.now c.args.b whole cut.ensures.front_len c.args.a c.index-low-a.result
    c.if-a-b.true in
    let lb = in_high ss cut.result.0.now cut.result.1.now c.args.b whole cut.ensures.front_len 0 c.index-high-0.result in
    record {
      book = (
        ap (λ s. s.table) la ∙ (numbered_at c.args.book.now.table 0 ss c.args.a _ c.requires.book c.requires.inside.0).0,
        ap (λ s. s.table) lb
            ∙ (numbered_at c.args.book.now.table 0 ss (c.args.b + 0) _ c.requires.book
            (let i = c.requires.inside.1 in omega arith)).0,
      );
    }

pub follow-requires-else-a-b : goal.follow-requires-else-a-b
follow-requires-else-a-b c =
    let cut = c.split_at_mut-low-else-a-b in
    let ss = c.args.seats.now in
    let whole = sym cut.ensures.value in
    let apart : c.args.b < c.args.a = other_below c.args.a c.args.b (let no = c.if-a-b.false in omega (arith, no))
    c.requires.apart in
    let la = in_high ss cut.result.0.now cut.result.1.now c.args.a whole cut.ensures.front_len 0
    c.index-high-0-else-a-b.result in
    let lb = in_low ss cut.result.0.now cut.result.1.now c.args.a whole cut.ensures.front_len c.args.b c.index-low-b.result
    apart in
    record {
      book = (
        ap (λ s. s.table) la
            ∙ (numbered_at c.args.book.now.table 0 ss (c.args.a + 0) _ c.requires.book
            (let i = c.requires.inside.0 in omega arith)).0,
        ap (λ s. s.table) lb ∙ (numbered_at c.args.book.now.table 0 ss c.args.b _ c.requires.book c.requires.inside.1).0,
      );
    }

pub returns-then-a-b : goal.returns-then-a-b
returns-then-a-b c =
    let cut = c.split_at_mut-low in
    let ss = c.args.seats.now in
    let low = cut.result.0.now in
    let high = cut.result.1.now in
    let whole = sym cut.ensures.value in
    let la = in_low ss low high c.args.b whole cut.ensures.front_len c.args.a c.index-low-a.result c.if-a-b.true in
    let lb = in_high ss low high c.args.b whole cut.ensures.front_len 0 c.index-high-0.result in
    followed the_code c.args.a c.args.b ss _ _ _ c.follow.new.self _ _ c.requires.inside.0 c.requires.inside.1 la
    (lb ∙ ap (λ (i : ℕ). get_or ss i c.index-high-0.result) (omega arith))
    (set_low ss low high c.args.b whole cut.ensures.front_len c.args.a c.follow.new.self c.follow.new.other _ c.if-a-b.true
    c.follow.ensures.other)
    c.follow.ensures.same c.follow.ensures.read c.follow.ensures.view c.follow.ensures.below c.follow.ensures.later

pub returns-else-a-b : goal.returns-else-a-b
returns-else-a-b c =
    let cut = c.split_at_mut-low-else-a-b in
    let ss = c.args.seats.now in
    let low = cut.result.0.now in
    let high = cut.result.1.now in
    let whole = sym cut.ensures.value in
    let apart : c.args.b < c.args.a = other_below c.args.a c.args.b (let no = c.if-a-b.false in omega (arith, no))
    c.requires.apart in
    let la = in_high ss low high c.args.a whole cut.ensures.front_len 0 c.index-high-0-else-a-b.result in
    let lb = in_low ss low high c.args.a whole cut.ensures.front_len c.args.b c.index-low-b.result apart in
    let f = c.follow-else-a-b in
    followed the_code c.args.a c.args.b ss _ _ _ f.new.self _ _ c.requires.inside.0 c.requires.inside.1
    (la ∙ ap (λ (i : ℕ). get_or ss i c.index-high-0-else-a-b.result) (omega arith)) lb
    (set_high ss low high c.args.a whole cut.ensures.front_len c.args.b f.new.self f.new.other _ f.ensures.other)
    f.ensures.same f.ensures.read f.ensures.view f.ensures.below f.ensures.later
