-- A move of bytes, and then another: what both together moved.
-- For `write_all` and `read_all`.
use Rattle.std.proofs.Common.{ℕ, ◌+◌, List, ◌++◌, take, drop, Option, Some, None, sym, ap, subst, ◌∙◌, append_assoc}
use Rattle.std.proofs.Math.Seq.{take-add}
use Rattle.std.specs.Io.KnownBytes.{Appends, Consumes, Keeps}

pub consumes_then : (a b c : Option (List ℕ)) (xs ys : List ℕ) → Consumes a b xs → Consumes b c ys → Consumes a c (xs ++ ys)
consumes_then None b c xs ys h k = tt
consumes_then (Some old) None c xs ys h k = absurd h
consumes_then (Some old) (Some mid) None xs ys h k = absurd k
consumes_then (Some old) (Some mid) (Some new) xs ys h k = h ∙ ap (λ (t : List ℕ). xs ++ t) k ∙ sym (append_assoc xs ys new)

appends_then : (a b c : Option (List ℕ)) (xs ys : List ℕ) → Appends a b xs → Appends b c ys → Appends a c (xs ++ ys)
appends_then None b c xs ys h k = tt
appends_then (Some old) None c xs ys h k = absurd h
appends_then (Some old) (Some mid) None xs ys h k = absurd k
appends_then (Some old) (Some mid) (Some new) xs ys h k = k ∙ ap (λ (t : List ℕ). t ++ ys) h ∙ append_assoc old xs ys

-- a failed write after some pieces
pub appends_kept : (a b c : Option (List ℕ)) (xs : List ℕ) → Appends a b xs → Keeps b c → Appends a c xs
appends_kept None b c xs h k = tt
appends_kept (Some old) None c xs h k = absurd h
appends_kept (Some old) (Some mid) None xs h k = absurd k
appends_kept (Some old) (Some mid) (Some new) xs h k = k ∙ h

-- a write of the next piece
pub appends_next : (a b c : Option (List ℕ)) (bytes : List ℕ) (done n : ℕ) → Appends a b (take done bytes)
    → Appends b c (take n (drop done bytes)) → Appends a c (take (done + n) bytes)
appends_next a b c bytes done n h k =
    subst (λ (t : List ℕ). Appends a c t) (sym (take-add done n bytes))
    (appends_then a b c (take done bytes) (take n (drop done bytes)) h k)
