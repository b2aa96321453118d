-- The readers of entries, by their kinds, and of whole lines are exact.
-- For the lemmas of `EntriesExact` and `Exactly`, and so for the laws `lines_read_exactly`, `texts_read_once` and
-- others.
use Rattle.std.proofs.Common.{◌≡◌, ℕ, Bool, true, false, ◌&&◌, eqb, cond, List, [], ◌∷◌, ◌++◌, map, length, Option, Some, None, refl, sym, ap, ◌∙◌, arith}
use Rattle.std.specs.Prelude.{decimal, codes, option_and_then}
use Rattle.std.specs.Fmt.{signed_decimal}
use Rattle.std.specs.Option.{option_map}
use Rattle.std.specs.List.{slice_split, join_with_byte, list_all}
use Rattle.std.proofs.lemmas.Bool.{false≢true, ne_eqb}
use Rattle.std.proofs.lemmas.List.Splits.{join_with_byte-slice_split}
use Rattle.std.proofs.lemmas.Option.{same_Some, none-some}
use Rattle.lb_base.specs.declared.mask.Mask.{Mask}
use Rattle.lb_base.specs.declared.shape.Kind.{Kind}
use Rattle.lb_base.specs.declared.shape.Kind.TheVariants as turns
use Rattle.lb_base.specs.declared.view.MoveKind.{MoveKind}
use Rattle.lb_base.specs.declared.view.MoveKind.TheVariants as moves
use Rattle.lb_text.specs.Numbers.{nice_of}
use Rattle.lb_text.specs.Runs.{list_text}
use Rattle.lb_imbalance.specs.declared.decision.Decision.{Decision}
use Rattle.lb_imbalance.specs.declared.decision.Decision.TheVariants as decisions
use Rattle.lb_queue.specs.declared.answers.Reply.{Reply}
use Rattle.lb_queue.specs.declared.answers.Reply.TheVariants as replies
use Rattle.lb_queue.specs.declared.answers.AskReply.{AskReply}
use Rattle.lb_queue.specs.declared.answers.AskReply.TheVariants as requests
use Rattle.lb_queue.specs.declared.answers.OutCause.{OutCause}
use Rattle.lb_queue.specs.declared.answers.OutCause.TheVariants as causes
use Rattle.lb_trace.specs.declared.trace.Command.{Command}
use Rattle.lb_trace.specs.declared.trace.Command.TheVariants as commands
use Rattle.lb_trace.specs.Accepted.{is_mask, is_nice_value}
use Rattle.lb_core.specs.declared.entry.OutcomeWord.{OutcomeWord}
use Rattle.lb_core.specs.declared.entry.OutcomeWord.TheVariants as outcomes
use Rattle.lb_core.specs.declared.entry.FigName.{FigName}
use Rattle.lb_core.specs.declared.entry.Owner.{Owner}
use Rattle.lb_core.specs.declared.entry.What.{What}
use Rattle.lb_core.specs.declared.entry.What.TheVariants as whats
use Rattle.lb_record.specs.Words.{turn_word, move_word, reply_word, request_word, cause_word, outcome_word}
use Rattle.lb_record.specs.Fields.{ids_text, figures_text, target_text}
use Rattle.lb_record.specs.Entries.{command_fields, decision_fields, what_fields, entry_fields, entry_line}
use Rattle.lb_record.proofs.Spelled.{has_its_fields}
use Rattle.lb_read.specs.declared.kinds.WhatKind.{WhatKind}
use Rattle.lb_read.specs.declared.kinds.WhatKind.TheVariants as kinds
use Rattle.lb_read.specs.declared.kinds.CommandKind.{CommandKind}
use Rattle.lb_read.specs.declared.kinds.CommandKind.TheVariants as command_kinds
use Rattle.lb_read.specs.declared.kinds.DecisionKind.{DecisionKind}
use Rattle.lb_read.specs.declared.kinds.DecisionKind.TheVariants as decision_kinds
use Rattle.lb_read.specs.declared.written.WrittenEntry.{WrittenEntry}
use Rattle.lb_read.specs.Exact.{take_field, next_to, ending, if_none_left, whole, each, named, IsExact, TakesExactly}
use Rattle.lb_read.specs.Words.{turn_words, move_words, reply_words, request_words, cause_words, outcome_words}
use Rattle.lb_read.specs.KindWords.{decision_words, command_words, what_words}
use Rattle.lb_core.specs.Ranges.{is_any, is_short, is_long, is_moment, are_figures, is_target, is_told, command_fits, decision_fits, what_fits, entry_fits}
use Rattle.lb_read.specs.Written.{written_fits}
use Rattle.lb_read.specs.Fields.{short_in, long_in, moment_in, mask_in, ids_in, figures_in, target_in}
use Rattle.lb_read.specs.Owners.{owner_in}
use Rattle.lb_read.specs.Exact.{by_word}
use Rattle.lb_read.specs.Commands.{subject_at, wake_from, sleep_from, exit_from, set_mask_from, nice_from, tick_from, rebuild_from, if_any, masks_in, command_in}
use Rattle.lb_read.specs.Decisions.{pull_from, decision_in}
use Rattle.lb_read.specs.Kinds.{row_from, adopt_from, look_from, scan_from, end_from, did_from, out_from, landed_from, turn_from, close_from, ask_from, kick_from, pub_from, what_in}
use Rattle.lb_read.specs.Entries.{entry_from, origin_head, entry_in, line_in}
use Rattle.lb_read.proofs.ExactFacts.{map_pieces, bind_pieces, one_exact, next_to_exact, whole_exact, ending_exact, each_exact, named_sound}
use Rattle.lb_read.proofs.FieldsExact.{short_exact, long_exact, moment_exact, nice_exact, mask_exact, ids_exact, figures_exact, target_exact, owner_of_text, owner_is_good, owner_exact, joined_is}

-- ---- words
-- the word of each kind
abbrev decision_word : DecisionKind → List ℕ
decision_word decision_kinds.NotMine = codes "notmine"
decision_word decision_kinds.Balanced = codes "balanced"
decision_word decision_kinds.Pull = codes "pull"

abbrev command_word : CommandKind → List ℕ
command_word command_kinds.Wake = codes "wake"
command_word command_kinds.Sleep = codes "sleep"
command_word command_kinds.Exit = codes "exit"
command_word command_kinds.SetMask = codes "mask"
command_word command_kinds.Nice = codes "nice"
command_word command_kinds.Tick = codes "tick"
command_word command_kinds.Rebuild = codes "rebuild"

abbrev what_word : WhatKind → List ℕ
what_word kinds.Row = codes "row"
what_word kinds.Adopt = codes "use"
what_word kinds.Look = codes "look"
what_word kinds.Scan = codes "scan"
what_word kinds.End = codes "end"
what_word kinds.Did = codes "did"
what_word kinds.Out = codes "out"
what_word kinds.Landed = codes "in"
what_word kinds.Turn = codes "turn"
what_word kinds.Shut = codes "shut"
what_word kinds.Close = codes "close"
what_word kinds.Ask = codes "ask"
what_word kinds.Kick = codes "kick"
what_word kinds.Over = codes "over"
what_word kinds.Pub = codes "pub"

abbrev any_value : {A : Type 0} → A → Bool
any_value a = true

turns_exact : IsExact (named turn_words) turn_word any_value
turns_exact =
    record {
      sound = named_sound turn_word any_value turn_words (refl, refl, (refl, refl, (refl, refl, tt)));
      complete = λ k f. turn_back k;
    }
  where
    turn_back : (k : Kind) → named turn_words (turn_word k) ≡ Some k
    turn_back turns.Tick = refl
    turn_back turns.Idle = refl
    turn_back turns.Nohz = refl

moves_exact : IsExact (named move_words) move_word any_value
moves_exact =
    record {
      sound = named_sound move_word any_value move_words (refl, refl, (refl, refl, (refl, refl, tt)));
      complete = λ k f. move_back k;
    }
  where
    move_back : (k : MoveKind) → named move_words (move_word k) ≡ Some k
    move_back moves.Load = refl
    move_back moves.Util = refl
    move_back moves.Tasks = refl

replies_exact : IsExact (named reply_words) reply_word is_told
replies_exact =
    record {
      sound = named_sound reply_word is_told reply_words
          (refl, refl, (refl, refl, (refl, refl, (refl, refl, tt))));
      complete = reply_back;
    }
  where
    reply_back : (k : Reply) → is_told k ≡ true → named reply_words (reply_word k) ≡ Some k
    reply_back replies.Done f = refl
    reply_back replies.Already f = refl
    reply_back replies.NotHere f = absurd (false≢true f)
    reply_back replies.Gone f = refl
    reply_back replies.BadMask f = refl

requests_exact : IsExact (named request_words) request_word any_value
requests_exact =
    record {
      sound = named_sound request_word any_value request_words (refl, refl, (refl, refl, tt));
      complete = λ k f.
          request_back k;
    }
  where
    request_back : (k : AskReply) → named request_words (request_word k) ≡ Some k
    request_back requests.New = refl
    request_back requests.Old = refl

causes_exact : IsExact (named cause_words) cause_word any_value
causes_exact =
    record {
      sound = named_sound cause_word any_value cause_words
          (refl, refl, (refl, refl, (refl, refl, (refl, refl, tt))));
      complete = λ k f. cause_back k;
    }
  where
    cause_back : (k : OutCause) → named cause_words (cause_word k) ≡ Some k
    cause_back causes.Wake = refl
    cause_back causes.Stop = refl
    cause_back causes.Pull = refl
    cause_back causes.Push = refl

outcomes_exact : IsExact (named outcome_words) outcome_word any_value
outcomes_exact =
    record {
      sound = named_sound outcome_word any_value outcome_words
          (refl, refl, (refl, refl, (refl, refl, (refl, refl, (refl, refl, (refl, refl, tt))))));
      complete = λ k f. outcome_back k;
    }
  where
    outcome_back : (k : OutcomeWord) → named outcome_words (outcome_word k) ≡ Some k
    outcome_back outcomes.NotMine = refl
    outcome_back outcomes.Balanced = refl
    outcome_back outcomes.Moved = refl
    outcome_back outcomes.Pinned = refl
    outcome_back outcomes.Failed = refl
    outcome_back outcomes.Asking = refl

decisions_named : (word : List ℕ) (k : DecisionKind) → named decision_words word ≡ Some k
    → (word ≡ decision_word k) × (any_value k ≡ true)
decisions_named = named_sound decision_word any_value decision_words (refl, refl, (refl, refl, (refl, refl, tt)))

commands_named : (word : List ℕ) (k : CommandKind) → named command_words word ≡ Some k
    → (word ≡ command_word k) × (any_value k ≡ true)
commands_named =
    named_sound command_word any_value command_words
    (refl, refl, (refl, refl, (refl, refl, (refl, refl, (refl, refl, (refl, refl, (refl, refl, tt)))))))

whats_named : (word : List ℕ) (k : WhatKind) → named what_words word ≡ Some k → (word ≡ what_word k) × (any_value k ≡ true)
whats_named =
    named_sound what_word any_value what_words (
      refl,
      refl,
      (
        refl,
        refl,
        (
          refl,
          refl,
          (
            refl,
            refl,
            (
              refl,
              refl,
              (
                refl,
                refl,
                (
                  refl,
                  refl,
                  (
                    refl,
                    refl,
                    (
                      refl,
                      refl,
                      (refl, refl, (refl, refl, (refl, refl, (refl, refl, (refl, refl, (refl, refl, tt)))))),
                    ),
                  ),
                ),
              ),
            ),
          ),
        ),
      ),
    )

-- ---- a kind's fields, behind its word
kind_sound : {A B : Type 0} (word : List ℕ) (read : List (List ℕ) → Option A) (write : A → List (List ℕ)) (fits : A → Bool)
    (make : A → B) (out : B → List (List ℕ)) (ok : B → Bool)
    → IsExact read write fits → ((a : A) → out (make a) ≡ word ∷ write a) → ((a : A) → ok (make a) ≡ fits a)
    → (fields : List (List ℕ)) (b : B) → option_map make (read fields) ≡ Some b → (word ∷ fields ≡ out b) × (ok b ≡ true)
kind_sound word read write fits make out ok e same good fields b h =
    let m = map_pieces make (read fields) b h in
    let s = e.sound fields m.0 m.1 in
    (ap (λ f. word ∷ f) s.0 ∙ sym (same m.0) ∙ ap out m.2, sym (ap ok m.2) ∙ good m.0 ∙ s.1)

lone_sound : {B : Type 0} (word : List ℕ) (made : B) (out : B → List (List ℕ)) (ok : B → Bool) → out made ≡ word ∷ []
    → ok made ≡ true
    → (fields : List (List ℕ)) (b : B) → if_none_left made fields ≡ Some b → (word ∷ fields ≡ out b) × (ok b ≡ true)
lone_sound word made out ok same good [] b h = let is = same_Some made b h in (sym same ∙ ap out is, sym (ap ok is) ∙ good)
lone_sound word made out ok same good (field ∷ fields) b h = absurd (none-some b h)

word_sound : {K A : Type 0} (table : List (List ℕ × K)) (rest : K → List (List ℕ) → Option A) (word : K → List ℕ)
    (out : A → List (List ℕ)) (ok : A → Bool)
    → ((w : List ℕ) (k : K) → named table w ≡ Some k → (w ≡ word k) × (any_value k ≡ true))
    → ((k : K) (fields : List (List ℕ)) (a : A) → rest k fields ≡ Some a → (word k ∷ fields ≡ out a) × (ok a ≡ true))
    → (fields : List (List ℕ)) (a : A) → by_word table rest fields ≡ Some a → (fields ≡ out a) × (ok a ≡ true)
unfolding take_field
word_sound table rest word out ok names sound [] a e = absurd (none-some a e)
word_sound table rest word out ok names sound (w ∷ fields) a e =
    let k = bind_pieces (λ k. rest k.0 k.1) (option_map (λ v. (v, fields)) (named table w)) a e in
    let m = map_pieces (λ v. (v, fields)) (named table w) k.0 k.1 in
    let s = sound m.0 fields a (ap (λ p. rest p.0 p.1) m.2 ∙ k.2) in
    (ap (λ v. v ∷ fields) (names w m.0 m.1).0 ∙ s.0, s.1)

-- ---- tests in another order
and_true : (b : Bool) → (b && true) ≡ b
and_true true = refl
and_true false = refl

and_swap : (a b : Bool) → (b && a) ≡ (a && b)
and_swap true true = refl
and_swap true false = refl
and_swap false true = refl
and_swap false false = refl

and_move : (a b c : Bool) → (b && (a && c)) ≡ ((a && b) && c)
and_move true true c = refl
and_move true false c = refl
and_move false true c = refl
and_move false false c = refl

and_assoc : (a b c : Bool) → ((a && b) && c) ≡ (a && (b && c))
and_assoc true b c = refl
and_assoc false b c = refl

-- ---- commands
abbrev out_command : Command × ℕ → List (List ℕ)
out_command p = command_fields p.0 p.1

abbrev ok_command : Command × ℕ → Bool
ok_command p = is_moment p.1 && command_fits p.0

subject_takes : TakesExactly subject_at (λ p. decimal p.0 ∷ decimal p.1 ∷ []) (λ p. is_short p.0 && is_moment p.1)
subject_takes =
    next_to_exact (take_field short_in) (take_field moment_in) (λ n. decimal n ∷ []) (λ n. decimal n ∷ []) is_short is_moment
    (one_exact short_in decimal is_short short_exact) (one_exact moment_in decimal is_moment moment_exact)

subject_exact : IsExact (whole subject_at) (λ p. decimal p.0 ∷ decimal p.1 ∷ []) (λ p. is_short p.0 && is_moment p.1)
subject_exact = whole_exact subject_at (λ p. decimal p.0 ∷ decimal p.1 ∷ []) (λ p. is_short p.0 && is_moment p.1) subject_takes

set_mask_exact : IsExact (whole (next_to subject_at (take_field mask_in)))
    (λ p. decimal p.0.0 ∷ decimal p.0.1 ∷ list_text p.1 ∷ []) (λ p. (is_short p.0.0 && is_moment p.0.1) && is_mask p.1)
set_mask_exact =
    whole_exact (next_to subject_at (take_field mask_in)) (λ p. decimal p.0.0 ∷ decimal p.0.1 ∷ list_text p.1 ∷ [])
    (λ p. (is_short p.0.0 && is_moment p.0.1) && is_mask p.1)
    (next_to_exact subject_at (take_field mask_in) (λ p. decimal p.0 ∷ decimal p.1 ∷ []) (λ m. list_text m ∷ [])
    (λ p. is_short p.0 && is_moment p.1) is_mask
    subject_takes (one_exact mask_in list_text is_mask mask_exact))

nice_command_exact : IsExact (whole (next_to subject_at (take_field nice_of)))
    (λ p. decimal p.0.0 ∷ decimal p.0.1 ∷ signed_decimal p.1 ∷ []) (λ p. (is_short p.0.0 && is_moment p.0.1) && is_nice_value p.1)
nice_command_exact =
    whole_exact (next_to subject_at (take_field nice_of)) (λ p. decimal p.0.0 ∷ decimal p.0.1 ∷ signed_decimal p.1 ∷ [])
    (λ p. (is_short p.0.0 && is_moment p.0.1) && is_nice_value p.1)
    (next_to_exact subject_at (take_field nice_of) (λ p. decimal p.0 ∷ decimal p.1 ∷ []) (λ z. signed_decimal z ∷ [])
    (λ p. is_short p.0 && is_moment p.1) is_nice_value
    subject_takes (one_exact nice_of signed_decimal is_nice_value nice_exact))

abbrev are_parts : List Mask → Bool
are_parts parts = is_any parts && list_all is_mask parts

masks_sound : (fields : List (List ℕ)) (found parts : List Mask) → each mask_in fields ≡ Some found → if_any found ≡ Some parts
    → (fields ≡ map list_text parts) × (are_parts parts ≡ true)
masks_sound fields [] parts e h = absurd (none-some parts h)
masks_sound fields (m ∷ found) parts e h =
    let some : eqb (length (m ∷ found)) 0 ≡ false = ne_eqb (length (m ∷ found)) 0 (λ z. omega (arith, z)) in
    let is : m ∷ found ≡ parts = same_Some (m ∷ found) parts (rw some at h) in
    let s = (each_exact mask_in list_text is_mask mask_exact).sound fields (m ∷ found) e in
    (s.0 ∙ ap (map list_text) is, sym (ap are_parts is) ∙ s.1)

masks_complete : (parts : List Mask) → are_parts parts ≡ true → masks_in (map list_text parts) ≡ Some parts
masks_complete [] f = absurd (false≢true f)
masks_complete (m ∷ parts) f =
    let some : eqb (length (m ∷ parts)) 0 ≡ false = ne_eqb (length (m ∷ parts)) 0 (λ z. omega (arith, z)) in
    ap (option_and_then if_any) ((each_exact mask_in list_text is_mask mask_exact).complete (m ∷ parts) f)
    ∙ ap (λ b. cond b None (Some (m ∷ parts))) some

masks_exact : IsExact masks_in (map list_text) are_parts
masks_exact = record {
  sound = λ fields parts e. let m = bind_pieces if_any (each mask_in fields) parts e in masks_sound fields m.0 parts m.1 m.2;
  complete = masks_complete;
}

rebuild_exact : IsExact (ending (take_field moment_in) masks_in) (λ p. decimal p.0 ∷ map list_text p.1)
    (λ p. is_moment p.0 && are_parts p.1)
rebuild_exact =
    ending_exact (take_field moment_in) masks_in (λ n. decimal n ∷ []) (map list_text) is_moment are_parts
    (one_exact moment_in decimal is_moment moment_exact) masks_exact

command_sound : (k : CommandKind) (fields : List (List ℕ)) (p : Command × ℕ) → command_in k fields ≡ Some p
    → (command_word k ∷ fields ≡ out_command p) × (ok_command p ≡ true)
unfolding command_in command_fields command_fits
command_sound command_kinds.Wake fields p e =
    kind_sound (codes "wake") (whole subject_at) (λ p. decimal p.0 ∷ decimal p.1 ∷ [])
    (λ p. is_short p.0 && is_moment p.1) wake_from out_command ok_command subject_exact (λ a. refl)
    (λ a. and_swap (is_short a.0) (is_moment a.1)) fields p e
command_sound command_kinds.Sleep fields p e =
    kind_sound (codes "sleep") (whole subject_at) (λ p. decimal p.0 ∷ decimal p.1 ∷ [])
    (λ p. is_short p.0 && is_moment p.1) sleep_from out_command ok_command subject_exact (λ a. refl)
    (λ a. and_swap (is_short a.0) (is_moment a.1)) fields p e
command_sound command_kinds.Exit fields p e =
    kind_sound (codes "exit") (whole subject_at) (λ p. decimal p.0 ∷ decimal p.1 ∷ [])
    (λ p. is_short p.0 && is_moment p.1) exit_from out_command ok_command subject_exact (λ a. refl)
    (λ a. and_swap (is_short a.0) (is_moment a.1)) fields p e
command_sound command_kinds.SetMask fields p e =
    kind_sound (codes "mask") (whole (next_to subject_at (take_field mask_in)))
    (λ p. decimal p.0.0 ∷ decimal p.0.1 ∷ list_text p.1 ∷ []) (λ p. (is_short p.0.0 && is_moment p.0.1) && is_mask p.1)
    set_mask_from out_command ok_command set_mask_exact (λ a. refl)
    (λ a. and_move (is_short a.0.0) (is_moment a.0.1) (is_mask a.1)) fields p e
command_sound command_kinds.Nice fields p e =
    kind_sound (codes "nice") (whole (next_to subject_at (take_field nice_of)))
    (λ p. decimal p.0.0 ∷ decimal p.0.1 ∷ signed_decimal p.1 ∷ [])
    (λ p. (is_short p.0.0 && is_moment p.0.1) && is_nice_value p.1)
    nice_from out_command ok_command nice_command_exact (λ a. refl)
    (λ a. and_move (is_short a.0.0) (is_moment a.0.1) (is_nice_value a.1)) fields p e
command_sound command_kinds.Tick fields p e =
    kind_sound (codes "tick") (whole subject_at) (λ p. decimal p.0 ∷ decimal p.1 ∷ [])
    (λ p. is_short p.0 && is_moment p.1) tick_from out_command ok_command subject_exact (λ a. refl)
    (λ a. and_swap (is_short a.0) (is_moment a.1)) fields p e
command_sound command_kinds.Rebuild fields p e =
    kind_sound (codes "rebuild") (ending (take_field moment_in) masks_in) (λ p. decimal p.0 ∷ map list_text p.1)
    (λ p. is_moment p.0 && are_parts p.1)
    rebuild_from out_command ok_command rebuild_exact (λ a. refl) (λ a. refl) fields p e

command_complete : (c : Command) (at : ℕ) → (is_moment at && command_fits c) ≡ true
    → by_word command_words command_in (command_fields c at) ≡ Some (c, at)
unfolding take_field command_in command_fields command_fits
command_complete (commands.Wake task) at f =
    ap (option_map wake_from) (subject_exact.complete (task, at) (sym (and_swap (is_short task) (is_moment at)) ∙ f))
command_complete (commands.Sleep task) at f =
    ap (option_map sleep_from) (subject_exact.complete (task, at) (sym (and_swap (is_short task) (is_moment at)) ∙ f))
command_complete (commands.Exit task) at f =
    ap (option_map exit_from) (subject_exact.complete (task, at) (sym (and_swap (is_short task) (is_moment at)) ∙ f))
command_complete (commands.SetMask task mask) at f =
    ap (option_map set_mask_from)
    (set_mask_exact.complete ((task, at), mask) (sym (and_move (is_short task) (is_moment at) (is_mask mask)) ∙ f))
command_complete (commands.Nice task nice) at f =
    ap (option_map nice_from)
    (nice_command_exact.complete ((task, at), nice) (sym (and_move (is_short task) (is_moment at) (is_nice_value nice)) ∙ f))
command_complete (commands.Tick cpu) at f =
    ap (option_map tick_from) (subject_exact.complete (cpu, at) (sym (and_swap (is_short cpu) (is_moment at)) ∙ f))
command_complete (commands.Rebuild parts) at f = ap (option_map rebuild_from) (rebuild_exact.complete (at, parts) f)

commands_exact : IsExact (by_word command_words command_in) out_command ok_command
commands_exact = record {
  sound = word_sound command_words command_in command_word out_command ok_command commands_named command_sound;
  complete = λ p f. command_complete p.0 p.1 f;
}

-- ---- decisions
abbrev pull_reader : List (List ℕ) → Option ((ℕ × MoveKind) × ℕ)
pull_reader fields = whole (next_to (next_to (take_field short_in) (take_field (named move_words))) (take_field long_in)) fields

abbrev pull_texts : (ℕ × MoveKind) × ℕ → List (List ℕ)
pull_texts p = decimal p.0.0 ∷ move_word p.0.1 ∷ decimal p.1 ∷ []

abbrev pull_good : (ℕ × MoveKind) × ℕ → Bool
pull_good p = (is_short p.0.0 && true) && is_long p.1

pull_exact : IsExact pull_reader pull_texts pull_good
pull_exact =
    whole_exact
    (next_to (next_to (take_field short_in) (take_field (named move_words))) (take_field long_in)) pull_texts pull_good
    (next_to_exact (next_to (take_field short_in) (take_field (named move_words))) (take_field long_in)
    (λ p. decimal p.0 ∷ move_word p.1 ∷ []) (λ n. decimal n ∷ []) (λ p. is_short p.0 && true) is_long
    (next_to_exact (take_field short_in) (take_field (named move_words)) (λ n. decimal n ∷ [])
    (λ k. move_word k ∷ []) is_short any_value
    (one_exact short_in decimal is_short short_exact) (one_exact (named move_words) move_word any_value moves_exact))
    (one_exact long_in decimal is_long long_exact))

with_any : (a b : Bool) → (a && b) ≡ ((a && true) && b)
with_any a b = ap (λ c. c && b) (sym (and_true a))

decision_sound : (k : DecisionKind) (fields : List (List ℕ)) (d : Decision) → decision_in k fields ≡ Some d
    → (decision_word k ∷ fields ≡ decision_fields d) × (decision_fits d ≡ true)
unfolding decision_in decision_fields decision_fits
decision_sound decision_kinds.NotMine fields d e =
    lone_sound (codes "notmine") decisions.NotMine decision_fields decision_fits refl refl fields d e
decision_sound decision_kinds.Balanced fields d e =
    lone_sound (codes "balanced") decisions.Balanced decision_fields decision_fits refl refl fields d e
decision_sound decision_kinds.Pull fields d e =
    kind_sound (codes "pull") pull_reader pull_texts pull_good pull_from decision_fields decision_fits pull_exact (λ a. refl)
    (λ a. with_any (is_short a.0.0) (is_long a.1)) fields d e

decision_complete : (d : Decision) → decision_fits d ≡ true → by_word decision_words decision_in (decision_fields d) ≡ Some d
unfolding take_field decision_in decision_fields decision_fits
decision_complete decisions.NotMine f = refl
decision_complete decisions.Balanced f = refl
decision_complete (decisions.Pull source kind imbalance) f =
    ap (option_map pull_from)
    (pull_exact.complete ((source, kind), imbalance) (sym (with_any (is_short source) (is_long imbalance)) ∙ f))

decisions_exact : IsExact (by_word decision_words decision_in) decision_fields decision_fits
decisions_exact = record {
  sound = word_sound decision_words decision_in decision_word decision_fields decision_fits decisions_named decision_sound;
  complete = decision_complete;
}

-- ---- what an entry says

abbrev row_reader : List (List ℕ) → Option (ℕ × (Command × ℕ))
row_reader fields = ending (take_field long_in) (by_word command_words command_in) fields

abbrev row_texts : ℕ × (Command × ℕ) → List (List ℕ)
row_texts p = decimal p.0 ∷ out_command p.1

abbrev row_good : ℕ × (Command × ℕ) → Bool
row_good p = is_long p.0 && ok_command p.1

row_exact : IsExact row_reader row_texts row_good
row_exact =
    ending_exact (take_field long_in) (by_word command_words command_in) (λ n. decimal n ∷ []) out_command is_long ok_command
    (one_exact long_in decimal is_long long_exact) commands_exact

abbrev adopt_reader : List (List ℕ) → Option ((ℕ × Kind) × ℕ)
adopt_reader fields = whole (next_to (next_to (take_field long_in) (take_field (named turn_words))) (take_field short_in)) fields

abbrev adopt_texts : (ℕ × Kind) × ℕ → List (List ℕ)
adopt_texts p = decimal p.0.0 ∷ turn_word p.0.1 ∷ decimal p.1 ∷ []

abbrev adopt_good : (ℕ × Kind) × ℕ → Bool
adopt_good p = (is_long p.0.0 && true) && is_short p.1

adopt_exact : IsExact adopt_reader adopt_texts adopt_good
adopt_exact =
    whole_exact
    (next_to (next_to (take_field long_in) (take_field (named turn_words))) (take_field short_in)) adopt_texts adopt_good
    (next_to_exact (next_to (take_field long_in) (take_field (named turn_words))) (take_field short_in)
    (λ p. decimal p.0 ∷ turn_word p.1 ∷ []) (λ n. decimal n ∷ []) (λ p. is_long p.0 && true) is_short
    (next_to_exact (take_field long_in) (take_field (named turn_words)) (λ n. decimal n ∷ [])
    (λ k. turn_word k ∷ []) is_long any_value
    (one_exact long_in decimal is_long long_exact) (one_exact (named turn_words) turn_word any_value turns_exact))
    (one_exact short_in decimal is_short short_exact))

abbrev look_reader : List (List ℕ) → Option (((ℕ × Mask) × List FigName) × Decision)
look_reader fields =
    ending (next_to (next_to (take_field short_in) (take_field mask_in)) (take_field figures_in))
    (by_word decision_words decision_in) fields

abbrev look_texts : ((ℕ × Mask) × List FigName) × Decision → List (List ℕ)
look_texts p = decimal p.0.0.0 ∷ list_text p.0.0.1 ∷ figures_text p.0.1 ∷ decision_fields p.1

abbrev look_good : ((ℕ × Mask) × List FigName) × Decision → Bool
look_good p = ((is_short p.0.0.0 && is_mask p.0.0.1) && are_figures p.0.1) && decision_fits p.1

look_exact : IsExact look_reader look_texts look_good
look_exact =
    ending_exact (next_to (next_to (take_field short_in) (take_field mask_in)) (take_field figures_in))
    (by_word decision_words decision_in)
    (λ p. decimal p.0.0 ∷ list_text p.0.1 ∷ figures_text p.1 ∷ []) decision_fields
    (λ p. (is_short p.0.0 && is_mask p.0.1) && are_figures p.1) decision_fits
    (next_to_exact (next_to (take_field short_in) (take_field mask_in)) (take_field figures_in)
    (λ p. decimal p.0 ∷ list_text p.1 ∷ []) (λ fs. figures_text fs ∷ []) (λ p. is_short p.0 && is_mask p.1) are_figures
    (next_to_exact (take_field short_in) (take_field mask_in) (λ n. decimal n ∷ []) (λ m. list_text m ∷ []) is_short is_mask
    (one_exact short_in decimal is_short short_exact) (one_exact mask_in list_text is_mask mask_exact))
    (one_exact figures_in figures_text are_figures figures_exact))
    decisions_exact

abbrev scan_reader : List (List ℕ) → Option (List FigName × Option ℕ)
scan_reader fields = whole (next_to (take_field figures_in) (take_field target_in)) fields

abbrev scan_texts : List FigName × Option ℕ → List (List ℕ)
scan_texts p = figures_text p.0 ∷ target_text p.1 ∷ []

abbrev scan_good : List FigName × Option ℕ → Bool
scan_good p = are_figures p.0 && is_target p.1

scan_exact : IsExact scan_reader scan_texts scan_good
scan_exact =
    whole_exact (next_to (take_field figures_in) (take_field target_in)) scan_texts scan_good
    (next_to_exact (take_field figures_in) (take_field target_in) (λ fs. figures_text fs ∷ [])
    (λ t. target_text t ∷ []) are_figures is_target (one_exact figures_in figures_text are_figures figures_exact)
    (one_exact target_in target_text is_target target_exact))

abbrev lone_mask_reader : List (List ℕ) → Option (Mask)
lone_mask_reader fields = whole (take_field mask_in) fields

abbrev lone_mask_texts : Mask → List (List ℕ)
lone_mask_texts p = list_text p ∷ []

abbrev lone_mask_good : Mask → Bool
lone_mask_good p = is_mask p

lone_mask_exact : IsExact lone_mask_reader lone_mask_texts lone_mask_good
lone_mask_exact =
    whole_exact (take_field mask_in) lone_mask_texts is_mask (one_exact mask_in list_text is_mask mask_exact)

abbrev did_reader : List (List ℕ) → Option (Reply)
did_reader fields = whole (take_field (named reply_words)) fields

abbrev did_texts : Reply → List (List ℕ)
did_texts p = reply_word p ∷ []

abbrev did_good : Reply → Bool
did_good p = is_told p

did_exact : IsExact did_reader did_texts did_good
did_exact =
    whole_exact (take_field (named reply_words)) did_texts is_told
    (one_exact (named reply_words) reply_word is_told replies_exact)

abbrev out_reader : List (List ℕ) → Option ((OutCause × ℕ) × List ℕ)
out_reader fields = whole (next_to (next_to (take_field (named cause_words)) (take_field short_in)) (take_field ids_in)) fields

abbrev out_texts : (OutCause × ℕ) × List ℕ → List (List ℕ)
out_texts p = cause_word p.0.0 ∷ decimal p.0.1 ∷ ids_text p.1 ∷ []

abbrev out_good : (OutCause × ℕ) × List ℕ → Bool
out_good p = (true && is_short p.0.1) && list_all is_short p.1

out_exact : IsExact out_reader out_texts out_good
out_exact =
    whole_exact (next_to (next_to (take_field (named cause_words)) (take_field short_in)) (take_field ids_in)) out_texts out_good
    (next_to_exact (next_to (take_field (named cause_words)) (take_field short_in)) (take_field ids_in)
    (λ p. cause_word p.0 ∷ decimal p.1 ∷ []) (λ i. ids_text i ∷ []) (λ p. true && is_short p.1) (list_all is_short)
    (next_to_exact (take_field (named cause_words)) (take_field short_in) (λ k. cause_word k ∷ [])
    (λ n. decimal n ∷ []) any_value is_short
    (one_exact (named cause_words) cause_word any_value causes_exact) (one_exact short_in decimal is_short short_exact))
    (one_exact ids_in ids_text (list_all is_short) ids_exact))

abbrev lone_ids_reader : List (List ℕ) → Option (List ℕ)
lone_ids_reader fields = whole (take_field ids_in) fields

abbrev lone_ids_texts : List ℕ → List (List ℕ)
lone_ids_texts p = ids_text p ∷ []

abbrev lone_ids_good : List ℕ → Bool
lone_ids_good p = list_all is_short p

lone_ids_exact : IsExact lone_ids_reader lone_ids_texts lone_ids_good
lone_ids_exact =
    whole_exact (take_field ids_in) lone_ids_texts (list_all is_short) (one_exact ids_in ids_text (list_all is_short) ids_exact)

abbrev close_reader : List (List ℕ) → Option (((ℕ × OutcomeWord) × ℕ) × ℕ)
close_reader fields =
    whole
    (next_to (next_to (next_to (take_field short_in) (take_field (named outcome_words))) (take_field long_in))
    (take_field short_in)) fields

abbrev close_texts : ((ℕ × OutcomeWord) × ℕ) × ℕ → List (List ℕ)
close_texts p = decimal p.0.0.0 ∷ outcome_word p.0.0.1 ∷ decimal p.0.1 ∷ decimal p.1 ∷ []

abbrev close_good : ((ℕ × OutcomeWord) × ℕ) × ℕ → Bool
close_good p = ((is_short p.0.0.0 && true) && is_long p.0.1) && is_short p.1

close_exact : IsExact close_reader close_texts close_good
close_exact =
    whole_exact
    (next_to (next_to (next_to (take_field short_in) (take_field (named outcome_words))) (take_field long_in))
    (take_field short_in)) close_texts close_good
    (next_to_exact (next_to (next_to (take_field short_in) (take_field (named outcome_words))) (take_field long_in))
    (take_field short_in)
    (λ p. decimal p.0.0 ∷ outcome_word p.0.1 ∷ decimal p.1 ∷ []) (λ n. decimal n ∷ [])
    (λ p. (is_short p.0.0 && true) && is_long p.1) is_short
    (next_to_exact (next_to (take_field short_in) (take_field (named outcome_words))) (take_field long_in)
    (λ p. decimal p.0 ∷ outcome_word p.1 ∷ []) (λ n. decimal n ∷ []) (λ p. is_short p.0 && true) is_long
    (next_to_exact (take_field short_in) (take_field (named outcome_words)) (λ n. decimal n ∷ [])
    (λ k. outcome_word k ∷ []) is_short any_value
    (one_exact short_in decimal is_short short_exact) (one_exact (named outcome_words) outcome_word any_value outcomes_exact))
    (one_exact long_in decimal is_long long_exact))
    (one_exact short_in decimal is_short short_exact))

abbrev request_reader : List (List ℕ) → Option (AskReply)
request_reader fields = whole (take_field (named request_words)) fields

abbrev request_texts : AskReply → List (List ℕ)
request_texts p = request_word p ∷ []

abbrev request_good : AskReply → Bool
request_good p = any_value p

request_exact : IsExact request_reader request_texts request_good
request_exact =
    whole_exact (take_field (named request_words)) request_texts any_value
    (one_exact (named request_words) request_word any_value requests_exact)

abbrev lone_long_reader : List (List ℕ) → Option (ℕ)
lone_long_reader fields = whole (take_field long_in) fields

abbrev lone_long_texts : ℕ → List (List ℕ)
lone_long_texts p = decimal p ∷ []

abbrev lone_long_good : ℕ → Bool
lone_long_good p = is_long p

lone_long_exact : IsExact lone_long_reader lone_long_texts lone_long_good
lone_long_exact =
    whole_exact (take_field long_in) lone_long_texts is_long (one_exact long_in decimal is_long long_exact)

what_sound : (k : WhatKind) (fields : List (List ℕ)) (w : What) → what_in k fields ≡ Some w
    → (what_word k ∷ fields ≡ what_fields w) × (what_fits w ≡ true)
unfolding what_in what_fields what_fits
what_sound kinds.Row fields w e =
    kind_sound (codes "row") row_reader row_texts row_good row_from what_fields what_fits row_exact (λ a. refl)
    (λ a. and_assoc (is_long a.0) (is_moment a.1.1) (command_fits a.1.0)) fields w e
what_sound kinds.Adopt fields w e =
    kind_sound (codes "use") adopt_reader adopt_texts adopt_good adopt_from what_fields what_fits adopt_exact (λ a. refl)
    (λ a. with_any (is_long a.0.0) (is_short a.1)) fields w e
what_sound kinds.Look fields w e =
    kind_sound (codes "look") look_reader look_texts look_good look_from what_fields what_fits look_exact (λ a. refl)
    (λ a. refl) fields w e
what_sound kinds.Scan fields w e =
    kind_sound (codes "scan") scan_reader scan_texts scan_good scan_from what_fields what_fits scan_exact (λ a. refl)
    (λ a. refl) fields w e
what_sound kinds.End fields w e =
    kind_sound (codes "end") lone_mask_reader lone_mask_texts lone_mask_good end_from what_fields what_fits lone_mask_exact
    (λ a. refl) (λ a. refl) fields w e
what_sound kinds.Did fields w e =
    kind_sound (codes "did") did_reader did_texts did_good did_from what_fields what_fits did_exact (λ a. refl)
    (λ a. refl) fields w e
what_sound kinds.Out fields w e =
    kind_sound (codes "out") out_reader out_texts out_good out_from what_fields what_fits out_exact (λ a. refl)
    (λ a. refl) fields w e
what_sound kinds.Landed fields w e =
    kind_sound (codes "in") lone_ids_reader lone_ids_texts lone_ids_good landed_from what_fields what_fits lone_ids_exact
    (λ a. refl) (λ a. refl) fields w e
what_sound kinds.Turn fields w e =
    kind_sound (codes "turn") lone_mask_reader lone_mask_texts lone_mask_good turn_from what_fields what_fits lone_mask_exact
    (λ a. refl) (λ a. refl) fields w e
what_sound kinds.Shut fields w e = lone_sound (codes "shut") whats.Shut what_fields what_fits refl refl fields w e
what_sound kinds.Close fields w e =
    kind_sound (codes "close") close_reader close_texts close_good close_from what_fields what_fits close_exact (λ a. refl)
    (λ a. ap (λ b. b && is_short a.1) (with_any (is_short a.0.0.0) (is_long a.0.1))) fields w e
what_sound kinds.Ask fields w e =
    kind_sound (codes "ask") request_reader request_texts request_good ask_from what_fields what_fits request_exact (λ a. refl)
    (λ a. refl) fields w e
what_sound kinds.Kick fields w e =
    kind_sound (codes "kick") request_reader request_texts request_good kick_from what_fields what_fits request_exact
    (λ a. refl) (λ a. refl) fields w e
what_sound kinds.Over fields w e = lone_sound (codes "over") whats.Over what_fields what_fits refl refl fields w e
what_sound kinds.Pub fields w e =
    kind_sound (codes "pub") lone_long_reader lone_long_texts lone_long_good pub_from what_fields what_fits lone_long_exact
    (λ a. refl) (λ a. refl) fields w e

what_complete : (w : What) → what_fits w ≡ true → by_word what_words what_in (what_fields w) ≡ Some w
unfolding take_field what_in what_fields what_fits
what_complete (whats.Row number at command) f =
    ap (option_map row_from)
    (row_exact.complete (number, (command, at)) (sym (and_assoc (is_long number) (is_moment at) (command_fits command)) ∙ f))
what_complete (whats.Adopt version kind cpu) f =
    ap (option_map adopt_from) (adopt_exact.complete ((version, kind), cpu) (sym (with_any (is_long version) (is_short cpu)) ∙ f))
what_complete (whats.Look position excluded figures decision) f =
    ap (option_map look_from) (look_exact.complete (((position, excluded), figures), decision) f)
what_complete (whats.Scan figures target) f = ap (option_map scan_from) (scan_exact.complete (figures, target) f)
what_complete (whats.End unserved) f = ap (option_map end_from) (lone_mask_exact.complete unserved f)
what_complete (whats.Did reply) f = ap (option_map did_from) (did_exact.complete reply f)
what_complete (whats.Out cause to ids) f = ap (option_map out_from) (out_exact.complete ((cause, to), ids) f)
what_complete (whats.Landed ids) f = ap (option_map landed_from) (lone_ids_exact.complete ids f)
what_complete (whats.Turn positions) f = ap (option_map turn_from) (lone_mask_exact.complete positions f)
what_complete whats.Shut f = refl
what_complete (whats.Close position outcome interval failures) f =
    ap (option_map close_from)
    (close_exact.complete (((position, outcome), interval), failures)
    (sym (ap (λ b. b && is_short failures) (with_any (is_short position) (is_long interval))) ∙ f))
what_complete (whats.Ask reply) f = ap (option_map ask_from) (request_exact.complete reply f)
what_complete (whats.Kick reply) f = ap (option_map kick_from) (request_exact.complete reply f)
what_complete whats.Over f = refl
what_complete (whats.Pub version) f = ap (option_map pub_from) (lone_long_exact.complete version f)

whats_exact : IsExact (by_word what_words what_in) what_fields what_fits
whats_exact = record {
  sound = word_sound what_words what_in what_word what_fields what_fits whats_named what_sound;
  complete = what_complete;
}

-- ---- whole lines
abbrev head_texts : (ℕ × (Owner × ℕ)) × ℕ → List (List ℕ)
head_texts p = decimal p.0.0 ∷ owner_of_text p.0.1 ∷ decimal p.1 ∷ []

abbrev head_good : (ℕ × (Owner × ℕ)) × ℕ → Bool
head_good p = (is_long p.0.0 && owner_is_good p.0.1) && is_long p.1

head_takes : TakesExactly origin_head head_texts head_good
head_takes =
    next_to_exact (next_to (take_field long_in) (take_field owner_in)) (take_field long_in)
    (λ p. decimal p.0 ∷ owner_of_text p.1 ∷ []) (λ n. decimal n ∷ []) (λ p. is_long p.0 && owner_is_good p.1) is_long
    (next_to_exact (take_field long_in) (take_field owner_in) (λ n. decimal n ∷ [])
    (λ o. owner_of_text o ∷ []) is_long owner_is_good
    (one_exact long_in decimal is_long long_exact) (one_exact owner_in owner_of_text owner_is_good owner_exact))
    (one_exact long_in decimal is_long long_exact)

parts_exact : IsExact (ending origin_head (by_word what_words what_in)) (λ p. head_texts p.0 ++ what_fields p.1)
    (λ p. head_good p.0 && what_fits p.1)
parts_exact =
    ending_exact origin_head (by_word what_words what_in) head_texts what_fields head_good what_fits head_takes whats_exact

abbrev pub fields_of : WrittenEntry → List (List ℕ)
fields_of w = entry_fields w.ticket w.entry

entry_exact : IsExact entry_in fields_of written_fits
unfolding entry_in entry_fits
entry_exact = record {
  sound = λ fields w e.
      let m = map_pieces entry_from (ending origin_head (by_word what_words what_in) fields) w e in
      let s = parts_exact.sound fields m.0 m.1 in
      (s.0 ∙ ap fields_of m.2, sym (ap written_fits m.2) ∙ s.1);
  complete =
      λ w f. ap (option_map entry_from) (parts_exact.complete
      (((w.ticket, (w.entry.owner, w.entry.lane)), w.entry.prev), w.entry.what) f);
}

abbrev pub line_of : WrittenEntry → List ℕ
line_of w = entry_line w.ticket w.entry

pub line_exact : IsExact line_in line_of written_fits
unfolding line_in entry_line
line_exact = record {
  sound = λ line w e.
      let s = entry_exact.sound (slice_split (λ b. eqb b 32) line) w e in
      (sym (join_with_byte-slice_split 32 line) ∙ ap (join_with_byte 32) s.0 ∙ sym (joined_is 32 (fields_of w)), s.1);
  complete = λ w f. ap entry_in (has_its_fields w.ticket w.entry) ∙ entry_exact.complete w f;
}
