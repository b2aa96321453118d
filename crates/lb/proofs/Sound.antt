-- What holds of each history of a trace that was read.
-- For the law `histories_are_sound`.
use Rattle.std.proofs.Common.{◌≡◌, ℕ, zero, suc, true, List, [], ◌∷◌, take, Ok, sym, subst}
use Rattle.lb_core.specs.declared.entry.Entry.{Entry}
use Rattle.lb_core.specs.Machine.{MachineState, start}
use Rattle.lb_core.specs.Ranges.{entries_fit}
use Rattle.lb_core.specs.Step.{after}
use Rattle.lb_core.specs.Legal.{MayFollow, IsLegalFront, IsLegalHistory}
use Rattle.lb_core.specs.Placed.{PlacedAlways}
use Rattle.lb_core.specs.Permitted.{PermittedAlways}
use Rattle.lb_core.specs.Replies.{RepliesAlways}
use Rattle.lb_core.specs.Passes.{PassesAlways}
use Rattle.lb_trace.specs.declared.trace.Header.{Header}
use Rattle.lb_trace.specs.declared.trace.Trace.{Trace}
use Rattle.lb_trace.specs.Accepted.{IsTrace, IsHeader}
use Rattle.lb_trace.specs.Grammar.{reading_of}
use Rattle.lb_ready.specs.Laws.{EntriesFit}
use Rattle.lb_record.specs.History.{text_of}
use Rattle.lb_read.specs.Laws.{ReadOnce, HeadersReadBack, ReadBack}
use Rattle.lb_read.specs.Whole.{IsDeclared, ReadsAs}
use Rattle.lb_read.specs.Written.{as_read}
use Rattle.lb.specs.Headline.{HistoriesAreSound}

-- the laws that this stands on
pub record Laws : Type 0 where
  pub accepted : (text : List ℕ) (t : Trace) → reading_of text ≡ Ok t → IsTrace t
  pub placed : PlacedAlways
  pub permitted : PermittedAlways
  pub replies : RepliesAlways
  pub passes : PassesAlways
  pub fit : EntriesFit
  pub declared : HeadersReadBack
  pub back : ReadBack
  pub once : ReadOnce

front_taken : (n : ℕ) (es : List Entry) (m : MachineState) → MayFollow es m → MayFollow (take n es) m
front_taken zero es m legal = tt
front_taken (suc n) [] m legal = tt
front_taken (suc n) (e ∷ es) m legal = (legal.0, front_taken n es (after m e) legal.1)

pub sound : Laws → HistoriesAreSound
sound law text t h is of_trace =
    let given : IsTrace t = law.accepted text t is in
    let header : IsHeader h.header = subst (λ (x : Header). IsHeader x) (sym of_trace.header) given.header in
    let front : (n : ℕ) → IsLegalFront h.header (take n h.entries) =
    λ n. front_taken n h.entries (start h.header) of_trace.legal.0 in
    let declared : IsDeclared h.header = subst (λ (x : Header). IsDeclared x) (sym of_trace.header) (law.declared text t is) in
    let fit : entries_fit h.entries ≡ true = law.fit t h given of_trace in
    let reads : ReadsAs (text_of h) (as_read h) = law.back h (record { header = declared; entries = fit }) in
    record {
      history = of_trace;
      in_range = fit;
      replied = λ before later e is.
          law.replies h.header before later e (subst (λ (es : List Entry). IsLegalHistory h.header es) is of_trace.legal);
      placed = λ n. law.placed h.header (take n h.entries) header (front n);
      permitted = λ n. law.permitted h.header (take n h.entries) header (front n);
      passes = λ before later e is.
          law.passes h.header before later e (subst (λ (es : List Entry). IsLegalFront h.header es) is of_trace.legal.0);
      reads = reads;
      only = λ read other. law.once (text_of h) read (as_read h) other reads;
    }
