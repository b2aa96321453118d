-- Small facts that several files use: tests joined by `or`, options that have a value, and answers that
-- are the same.
-- For the lemmas of `EntriesExact`, `FieldsExact` and other files, and so for the laws `texts_read_once`,
-- `headers_read_back` and others.
use Rattle.std.proofs.Common.{◌≡◌, Bool, true, false, ◌||◌, Option, Some, None, Result, Ok, Err, refl}
use Rattle.std.specs.Prelude.{is_none, is_some}
use Rattle.std.proofs.lemmas.Bool.{false≢true}

pub or_false : (b : Bool) → (b || false) ≡ b
or_false true = refl
or_false false = refl

pub or_true : (b : Bool) → (b || true) ≡ true
or_true true = refl
or_true false = refl

pub is_none_from : {A : Type 0} (o : Option A) → is_none o ≡ true → o ≡ None
is_none_from None e = refl
is_none_from (Some a) e = absurd (false≢true e)

pub some_from : {A : Type 0} (o : Option A) → is_none o ≡ false → is_some o ≡ true
some_from None e = absurd (cc)
some_from (Some a) e = refl

pub same_ok : {A E : Type 0} (a b : A) → ◌≡◌ {A = Result A E} (Ok a) (Ok b) → a ≡ b
same_ok a b e = cc

pub ok_err : {A E : Type 0} (a : A) (error : E) → ◌≡◌ {A = Result A E} (Err error) (Ok a) → ⊥
ok_err a error e = absurd (cc)
