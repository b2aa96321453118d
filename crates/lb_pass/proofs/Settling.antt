-- Some attempts of a lane, one after the other, and what ends them.
-- For `attempt`, `pass` and `settle`.
use Rattle.std.proofs.Common.{ℕ, suc, ◌≡◌, ◌<◌, Bool, true, false, List, [], Some, Result, Ok, Err, OnErr, length, ◌⊎◌, refl, sym, ◌∙◌, ap, subst, arith, inl, inr}
use Rattle.std.specs.Prelude.{MatchBool}
use Rattle.std.proofs.lemmas.Bool.{false_from_ne_true}
use Rattle.std.proofs.lemmas.List.{append-nil}
use base.Stored.{Coded}
use Rattle.atomic_table.specs.Seated.{TableId}
use Rattle.lb_seen.proofs.Beginnings.{prefix_self}
use Rattle.lb_board.specs.Board.{seen_at}
use Rattle.lb_imbalance.specs.declared.decision.Decision.{Decision}
use Rattle.lb_imbalance.specs.declared.decision.Decision.TheVariants.{NotMine, Balanced}
use Rattle.lb_trace.specs.declared.trace.Header.{Header}
use Rattle.lb_core.specs.declared.course.Course.{Course}
use Rattle.lb_core.specs.Course.{is_pull, looks_again, source_of}
use Rattle.lb_core.specs.Placed.{is_flight}
use Rattle.lb_journal.specs.Journal.{Journal}
use Rattle.lb_cell.specs.Cells.{LaneIs as SideIs}
use Rattle.lb_lane.specs.Lanes.{LaneIs}
use Rattle.lb_lane.specs.Looks.{LaneLooked, LookAsks}
use Rattle.lb_lane.specs.Own.{SameRest, Unmoved}
use Rattle.lb_lane_laws.proofs.Lanes.{lane_look_left, look_rows, rows_stay, rows_still}
use Rattle.lb_pass.specs.Passes.{AsksFurther, Attempted, Attempts, HasSource, LookedInVain, Settled, Stays, Stopped, StopsAt}
use Rattle.lb_pass.proofs.Attempting.{attempt_left}

-- ---- a refusal
pub on_err : {A E : Type 0} (r : Result A E) (P : Type 0) → P → OnErr r P
on_err (Ok x) P p = tt
on_err (Err e) P p = p

-- ---- nothing was drawn
pub unmoved : (l : SideIs) → Unmoved l l
unmoved l = record {
  list = refl;
  more = [];
  read = sym (append-nil l.seat.read);
  next = omega arith;
  course = refl;
  number = refl;
  held = refl;
  landing = refl;
  sees = λ cpu. prefix_self (seen_at l.known.reader cpu);
}

pub same_rest : (l : LaneIs) → SameRest l l
same_rest l = record { looker = refl; rows = refl; vouched = refl; turned = refl; domains = refl }

-- ---- what stays
stay : (l : LaneIs) → Stays l l
stay l = record { turn = refl; position_is = refl; rows = rows_stay l }

pub still : (l m n : LaneIs) → Stays l m → Stays m n → Stays l n
still l m n a b = record {
  turn = b.turn ∙ a.turn;
  position_is = b.position_is ∙ a.position_is;
  rows = rows_still l m n a.rows b.rows;
}

attempt_stays : (h : Header) (book : TableId) (board : List TableId) (code : Coded Journal) (l l' : LaneIs)
    → Attempted h book board code l l' → Stays l l'
attempt_stays h book board code l l' x =
    let left = attempt_left h book board code l l' x in
    record { turn = left.turn; position_is = left.position_is; rows = left.rows }

look_stays : (h : Header) (n : ℕ) (l l' : LaneIs) (d : Decision) → LaneLooked h n l l' d → Stays l l'
look_stays h n l l' d x =
    let left = lane_look_left h n l l' d x in
    record { turn = left.turn; position_is = left.position_is; rows = look_rows h n l l' d x }

-- a lane that drew nothing
pub unmoved_stays : (l l' : LaneIs) → Unmoved l.side l'.side → SameRest l l' → Stays l l'
unmoved_stays l l' u r =
    let same = sym u.course in
    subst (λ (c : Course). Stays l (record l' { side = record l'.side { course = c } })) same
    (record { turn = refl; position_is = refl; rows = record { number = u.number; rows = r.rows; taken_up = refl } })

-- ---- attempts, after which a look is due
pub record Tries (h : Header) (book : TableId) (board : List TableId) (code : Coded Journal) (l l' : LaneIs) : Type 0 where
  pub count : ℕ
  pub attempts : Attempts h book board code count l l'
  pub asks : LookAsks h l'
  pub stays : Stays l l'

pub none_tried : (h : Header) (book : TableId) (board : List TableId) (code : Coded Journal) (l : LaneIs) → LookAsks h l
    → Tries h book board code l l
none_tried h book board code l asks = record { count = 0; attempts = refl; asks = asks; stays = stay l }

pub one_more : (h : Header) (book : TableId) (board : List TableId) (code : Coded Journal) (l m l' : LaneIs)
    → Tries h book board code l m → Attempted h book board code m l' → LookAsks h l' → Tries h book board code l l'
one_more h book board code l m l' t x asks = record {
  count = suc t.count;
  attempts = (m, t.attempts, x);
  asks = asks;
  stays = still l m l' t.stays (attempt_stays h book board code m l' x);
}

-- ---- their end
pub record Ends (h : Header) (book : TableId) (board : List TableId) (code : Coded Journal) (l l' : LaneIs) : Type 0 where
  pub settled : Settled h book board code l l'
  pub stays : Stays l l'

pub ends_in_vain : (h : Header) (book : TableId) (board : List TableId) (code : Coded Journal) (l m l' : LaneIs)
    → Tries h book board code l m → LookedInVain h board m l' → Ends h book board code l l'
ends_in_vain h book board code l m l' t x = record {
  settled = record { count = t.count; tried = m; attempts = t.attempts; looks_end = inr x };
  stays = still l m l' t.stays (look_stays h (length board) m l' x.decision x.look);
}

pub ends_pulled : (h : Header) (book : TableId) (board : List TableId) (code : Coded Journal) (l m l' : LaneIs)
    → Tries h book board code l m → Attempted h book board code m l' → AsksFurther h l' → (LookAsks h l' → false ≡ true)
    → Ends h book board code l l'
ends_pulled h book board code l m l' t x further none =
    let left = attempt_left h book board code m l' x in
    record {
      settled = record {
        count = suc t.count;
        tried = l';
        attempts = (m, t.attempts, x);
        looks_end = inl (record {
          same = refl;
          landed = left.form;
          last = false_from_ne_true (looks_again h l'.side.course)
              (λ again. let e = none (further left.form again) in let y : ⊥ = cc in y);
        });
      };
      stays = still l m l' t.stays (attempt_stays h book board code m l' x);
    }

pub stops_after : (h : Header) (book : TableId) (board : List TableId) (code : Coded Journal) (l m l' : LaneIs)
    → Tries h book board code l m → StopsAt h board m l' → Stopped h book board code l l'
stops_after h book board code l m l' t x = record { count = t.count; tried = m; attempts = t.attempts; stops = x }

pub stop_stays : (h : Header) (board : List TableId) (m l' : LaneIs) → StopsAt h board m l' → Stays m l'
stop_stays h board m l' x =
    still m x.looked l' (elim x.looks [
      | inl same ↦ subst (Stays m) (sym same) (stay m)
      | inr one ↦ look_stays h (length board) m x.looked one.decision one.look
    ]) (unmoved_stays x.looked l' x.side x.rest)

-- ---- a look in vain, and one whose pull was refused
pub looked_in_vain : (h : Header) (n : ℕ) (l l' : LaneIs) (d : Decision) → LaneLooked h n l l' d → AsksFurther h l'
looked_in_vain h n l l' d x landed again =
    let looked = (lane_look_left h n l l' d x).form in absurd (let e = sym looked ∙ landed in let y : ⊥ = cc in y)

pub stops_looked : (h : Header) (board : List TableId) (l m l' : LaneIs) (d : Decision) → LaneLooked h (length board) l m d
    → l' ≡ m → StopsAt h board l l'
stops_looked h board l m l' d x same =
    subst (StopsAt h board l) (sym same) (record {
      looked = m;
      looks = inr (record { decision = d; look = x });
      side = unmoved m.side;
      rest = same_rest m;
      empty_handed = ap is_flight (lane_look_left h (length board) l m d x).form;
    })

pub in_vain : (h : Header) (board : List TableId) (l l' : LaneIs) (d : Decision) → (d ≡ NotMine) ⊎ (d ≡ Balanced)
    → LaneLooked h (length board) l l' d → LookedInVain h board l l'
in_vain h board l l' d is x = record {
  decision = d;
  look = x;
  vain = elim is [
    | inl e ↦ ap (λ (y : Decision). is_pull (Some y)) e
    | inr e ↦ ap (λ (y : Decision). is_pull (Some y)) e
  ];
}

-- a look that moves nothing has no source, for which 0 stands
pub vain_source : (h : Header) (n : ℕ) (l l' : LaneIs) (d : Decision) → (d ≡ NotMine) ⊎ (d ≡ Balanced)
    → LaneLooked h n l l' d → 0 < length h.cpus → HasSource h l'
vain_source h n l l' d is x some =
    let none : source_of (Some d) ≡ 0 = elim is [
      | inl e ↦ ap (λ (y : Decision). source_of (Some y)) e
      | inr e ↦ ap (λ (y : Decision). source_of (Some y)) e
    ] in
    let left = lane_look_left h n l l' d x in
    subst (λ (k : ℕ). k < length h.cpus) (sym (ap source_of left.decision ∙ none)) some

-- ---- whether it pulled
pub vain_of : (A B : Type 0) (b : Bool) → b ≡ false → MatchBool b A B → B
vain_of A B b e x = subst (λ (y : Bool). MatchBool y A B) e x

pub pull_of : (A B : Type 0) (b : Bool) → b ≡ true → MatchBool b A B → A
pull_of A B b e x = subst (λ (y : Bool). MatchBool y A B) e x
