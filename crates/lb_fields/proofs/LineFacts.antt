-- What `csv` reads of a plain line: its pieces between the commas.
-- For `next_fields`.
use Rattle.std.proofs.Common.{◌≡◌, ℕ, Bool, true, false, eqb, cond, ◌&&◌, List, [], ◌∷◌, ◌++◌, ◌==◌, Bor, Some, None, inl, inr, refl, sym, ap, subst, ◌∙◌, append_assoc}
use Rattle.std.proofs.lemmas.List.{append-nil}
use Rattle.std.proofs.lemmas.Bool.{cases_Bool, eqb-true}
use Rattle.std.specs.List.{onto_first}
use Rattle.std.specs.Prelude.{Option}
use Rattle.csv.specs.Machine.{next_record}
use Rattle.csv.specs.Reading.{source_of, pending_of, ReadRecord, ReadsNext, reader_state}
use Rattle.csv.specs.declared.reader.Reader.{Reader}
use Rattle.csv.specs.declared.parser.State.{State}
use Rattle.csv.specs.declared.parser.State.TheVariants as states
use Rattle.lb_fields.specs.Standing.{plain_config, Stands}
use Rattle.lb_fields.specs.Pieces.{pieces, is_plain_byte, is_plain}

-- pieces behind what was passed of the first of them
abbrev onto_front : List ℕ → List (List ℕ) → List (List ℕ)
onto_front front [] = front ∷ []
onto_front front (piece ∷ others) = (front ++ piece) ∷ others

onto_front-first : (front : List ℕ) (byte : ℕ) (ps : List (List ℕ))
    → onto_front front (onto_first byte ps) ≡ onto_front (front ++ byte ∷ []) ps
onto_front-first front byte [] = refl
onto_front-first front byte (p ∷ ps) = ap (λ (t : List ℕ). t ∷ ps) (sym (append_assoc front (byte ∷ []) p))

-- where a read stands inside a line: before a field, or in one
abbrev in_line : Bool → State
in_line true = states.StartField
in_line false = states.InField

and-left : (a b : Bool) → (a && b) ≡ true → a ≡ true
and-left true b e = refl
and-left false b e = cc e

and-right : (a b : Bool) → (a && b) ≡ true → b ≡ true
and-right true b e = e
and-right false b e = cc e

no_feed : (byte : ℕ) → is_plain_byte byte ≡ true → (byte == 10) ≡ false
no_feed byte plain = elim (cases_Bool (byte == 10)) [
  | inl same ↦ cc (subst (λ b. is_plain_byte b ≡ true) (eqb-true byte 10 same) plain)
  | inr other ↦ other
]

-- one byte of a line
at_comma : (before : Bool) (fields : List (List ℕ)) (field : List ℕ) (byte : ℕ) (rest : List ℕ) → (byte == 44) ≡ true
    → next_record plain_config (in_line before) fields field (byte ∷ rest) ≡ next_record plain_config (in_line true)
    (fields ++ field ∷ []) [] rest
unfolding next_record
at_comma true fields field byte rest comma = rw comma refl
at_comma false fields field byte rest comma = rw comma refl

at_other : (before : Bool) (fields : List (List ℕ)) (field : List ℕ) (byte : ℕ) (rest : List ℕ) → (byte == 44) ≡ false
    → (byte == 10) ≡ false
    → next_record plain_config (in_line before) fields field (byte ∷ rest) ≡ next_record plain_config
    (in_line false) fields (field ++ byte ∷ []) rest
unfolding next_record
at_other true fields field byte rest other feed = rw (other, feed) refl
at_other false fields field byte rest other feed = rw (other, feed) refl

starts : (line : List ℕ) → onto_front [] (pieces 44 line) ≡ pieces 44 line
starts [] = refl
starts (byte ∷ line) =
    elim (eqb byte 44) as (λ v. onto_front [] (cond v ([] ∷ pieces 44 line) (onto_first byte (pieces 44 line))) ≡ cond v
    ([] ∷ pieces 44 line) (onto_first byte (pieces 44 line)))
    [ true ↦ refl | false ↦ first_is byte (pieces 44 line) ]
  where
    first_is : (byte : ℕ) (ps : List (List ℕ)) → onto_front [] (onto_first byte ps) ≡ onto_first byte ps
    first_is byte [] = refl
    first_is byte (p ∷ ps) = refl

comma_pieces : (field : List ℕ) (byte : ℕ) (line : List ℕ) → (byte == 44) ≡ true
    → onto_front field (pieces 44 (byte ∷ line)) ≡ field ∷ onto_front [] (pieces 44 line)
comma_pieces field byte line comma = rw (comma, starts line) (ap (λ (t : List ℕ). t ∷ pieces 44 line) (append-nil field))

other_pieces : (field : List ℕ) (byte : ℕ) (line : List ℕ) → (byte == 44) ≡ false
    → onto_front field (pieces 44 (byte ∷ line)) ≡ onto_front (field ++ byte ∷ []) (pieces 44 line)
other_pieces field byte line other = rw other (onto_front-first field byte (pieces 44 line))

-- the rest of a line, from inside it to its line feed
reads_on : (before : Bool) (fields : List (List ℕ)) (field line tail : List ℕ) → is_plain line ≡ true
    → next_record plain_config (in_line before) fields field (line ++ 10 ∷ tail) ≡ Some
    (fields ++ onto_front field (pieces 44 line), states.StartRecord, tail)
unfolding next_record
reads_on true fields field [] tail plain = rw (append-nil field) refl
reads_on false fields field [] tail plain = rw (append-nil field) refl
reads_on before fields field (byte ∷ line) tail plain =
    let feed = no_feed byte (and-left _ _ plain) in
    let more = and-right _ _ plain in
    elim (cases_Bool (byte == 44)) [
      | inl comma ↦ at_comma before fields field byte (line ++ 10 ∷ tail) comma ∙ reads_on true (fields ++ field ∷ [])
          [] line tail more
          ∙ ap (λ t. Some (t, states.StartRecord, tail))
          (append_assoc fields (field ∷ []) (onto_front [] (pieces 44 line))
          ∙ ap (λ t. fields ++ t) (sym (comma_pieces field byte line comma)))
      | inr other ↦ at_other before fields field byte (line ++ 10 ∷ tail) other feed
          ∙ reads_on false fields (field ++ byte ∷ []) line tail more
          ∙ ap (λ t. Some (fields ++ t, states.StartRecord, tail)) (sym (other_pieces field byte line other))
    ]

-- a line that isn't empty begins as a field does
start_same : (byte : ℕ) (rest : List ℕ) → (byte == 10) ≡ false
    → next_record plain_config states.StartRecord [] [] (byte ∷ rest) ≡ next_record plain_config (in_line true) [] []
    (byte ∷ rest)
unfolding next_record
start_same byte rest feed = rw feed refl

-- the record that a line is, and what is left after it
line_record : (line tail : List ℕ) → (line ≡ [] → ⊥) → is_plain line ≡ true
    → next_record plain_config states.StartRecord [] [] (line ++ 10 ∷ tail) ≡ Some (pieces 44 line, states.StartRecord, tail)
line_record [] tail full plain = absurd (full refl)
line_record (byte ∷ line) tail full plain =
    start_same byte (line ++ 10 ∷ tail) (no_feed byte (and-left _ _ plain))
    ∙ reads_on true [] [] (byte ∷ line) tail plain ∙ ap (λ t. Some (t, states.StartRecord, tail)) (starts (byte ∷ line))

-- what a read shows, where the next record is known
next_known : (pending : Option (List ℕ)) (found : Bool) (shown fields : List (List ℕ)) (state : State) (text tail : List ℕ)
    → next_record plain_config states.StartRecord [] [] text ≡ Some (fields, states.StartRecord, tail)
    → ReadsNext plain_config states.StartRecord (Some text) pending found shown state
    → (found ≡ true) × (shown ≡ fields) × (state ≡ states.StartRecord) × (pending ≡ Some tail)
next_known None found shown fields state text tail known reads = absurd reads
next_known (Some left) found shown fields state text tail known reads = let h = rw known at reads in (h.0, h.1, h.2, ap Some h.3)

abbrev left_of : Bor (List ℕ) → Option (List ℕ)
left_of rest = Some rest.now

-- a read at the start of a plain line takes that line
pub takes_line : (old new : Reader (Bor (List ℕ))) (found : Bool) (shown : List (List ℕ)) (line tail : List ℕ)
    → (line ≡ [] → ⊥) → is_plain line ≡ true → Stands old (line ++ 10 ∷ tail) → ReadRecord left_of old new found shown
    → (shown ≡ pieces 44 line) × (reader_state new ≡ states.StartRecord) × (source_of left_of new ≡ Some tail)
takes_line old new found shown line tail full plain stands reads =
    let took = next_known (pending_of (left_of new.rdr) new) found shown (pieces 44 line) new.state
    (line ++ 10 ∷ tail) tail (line_record line tail full plain) (rw (stands.config, stands.state, stands.source) at reads.0) in
    (took.1, took.2, rw reads.1 took.3)
