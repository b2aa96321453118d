-- Reading the lines at the head of a text that can be repeated.
-- For `head_of`.
use Rattle.std.proofs.Common.{◌≡◌, ℕ, ◌+◌, ◌-◌, ◌≤◌, Bool, true, false, ◌&&◌, ◌||◌, cond, List, [], ◌∷◌, ◌++◌, length, drop, refl, sym, ap, ◌∙◌, append_assoc, arith, length-append}
use Rattle.std.specs.Prelude.{codes, not}
use Rattle.std.proofs.lemmas.List.{append-nil}
use Rattle.std.proofs.lemmas.Bool.{leb-true, and_parts}
use Rattle.lb_trace.specs.declared.trace.TheConstants.{MAX_BYTES}
use Rattle.lb_text.specs.Lines.{lines_text}
use Rattle.lb_read.specs.Repeats.{is_repeated, can_repeat, is_parts, Head, none_of, in_head, has_room, head_of}
use Rattle.lb_read.specs.Texts.{lines_of, trace_text, head_behind}
use Rattle.lb_read.proofs.TextFacts.{some_lines}

-- more lines at the head
abbrev pub all_in_head : List (List ℕ) → Head → Head
all_in_head bodies head = record head { bodies = bodies ++ head.bodies }

-- what was read of a text so far: these lines, this trace, and whether a line `parts` was among them
pub record HeadSoFar (text trace : List ℕ) (lines : ℕ) (parted : Bool) (rest : List ℕ) : Type 0 where
  pub bodies : List (List ℕ)
  pub trace_is : trace ≡ trace_text bodies
  pub lines_is : lines ≡ length bodies
  pub head_is : head_behind (lines_of text) ≡ all_in_head bodies (head_of (MAX_BYTES - length trace) parted (lines_of rest))
  pub few : lines ≤ length trace
  pub fits : length trace ≤ MAX_BYTES
  pub within : length rest ≤ length text

-- the lines at the head of a line and others
pub cut_head : (n : ℕ) (parted : Bool) (line : List ℕ) (lines : List (List ℕ)) → (lines ≡ [] → ⊥)
    → head_of n parted (line ∷ lines) ≡ cond (not (is_repeated line)) (none_of false (line ∷ lines))
    (cond (can_repeat parted (drop 2 line) && has_room n (drop 2 line))
    (in_head (drop 2 line) (head_of (n - (length (drop 2 line) + 1)) (parted || is_parts (drop 2 line)) lines))
    (none_of true (line ∷ lines)))
unfolding head_of
cut_head n parted line [] some = absurd (some refl)
cut_head n parted line (next ∷ more) some = refl

text_more : (bodies : List (List ℕ)) (body : List ℕ) → lines_text (bodies ++ body ∷ []) ≡ (lines_text bodies ++ body) ++ 10 ∷ []
text_more [] body = append-nil (body ++ 10 ∷ [])
text_more (b ∷ bodies) body =
    ap (λ t. (b ++ 10 ∷ []) ++ t) (text_more bodies body)
    ∙ sym (append_assoc (b ++ 10 ∷ []) (lines_text bodies ++ body) (10 ∷ []))
    ∙ ap (λ t. t ++ 10 ∷ []) (sym (append_assoc (b ++ 10 ∷ []) (lines_text bodies) body))

pub so_far_more : (text trace : List ℕ) (lines : ℕ) (parted : Bool) (rest line after body : List ℕ)
    → HeadSoFar text trace lines parted rest
    → lines_of rest ≡ line ∷ lines_of after → length after ≤ length rest → is_repeated line ≡ true → body ≡ drop 2 line
    → (can_repeat parted body && has_room (MAX_BYTES - length trace) body) ≡ true
    → HeadSoFar text ((trace ++ body) ++ 10 ∷ []) (lines + 1) (parted || is_parts body) after
so_far_more text trace lines parted rest line after body s cut shorter rep is can =
    let left = MAX_BYTES - length trace in
    let room_is : length body + 1 ≤ left =
    leb-true (length body + 1) left (and_parts (can_repeat parted body) (has_room left body) can).1 in
    let len : length ((trace ++ body) ++ 10 ∷ []) ≡ length trace + length body + 1 =
    length-append (trace ++ body) (10 ∷ []) ∙ ap (λ n. n + 1) (length-append trace body) in
    let left_is : left - (length body + 1) ≡ MAX_BYTES - length ((trace ++ body) ++ 10 ∷ []) = omega (arith, len) in
    let can_line : (can_repeat parted (drop 2 line) && has_room left (drop 2 line)) ≡ true =
    ap (λ b. can_repeat parted b && has_room left b) (sym is) ∙ can in
    let step : head_of left parted (lines_of rest) ≡ in_head (drop 2 line)
    (head_of (left - (length (drop 2 line) + 1)) (parted || is_parts (drop 2 line)) (lines_of after)) =
    ap (head_of left parted) cut ∙ cut_head left parted line (lines_of after) (some_lines after) ∙ rw (rep, can_line) refl in
    let moved : head_of left parted (lines_of rest) ≡ in_head body
    (head_of (MAX_BYTES - length ((trace ++ body) ++ 10 ∷ [])) (parted || is_parts body) (lines_of after)) =
    step ∙ ap (λ b. in_head b (head_of (left - (length b + 1)) (parted || is_parts b) (lines_of after))) (sym is)
    ∙ ap (λ n. in_head body (head_of n (parted || is_parts body) (lines_of after))) left_is in
    record {
      bodies = s.bodies ++ body ∷ [];
      trace_is = ap (λ t. (t ++ body) ++ 10 ∷ []) s.trace_is ∙ sym (text_more (codes "lbtrace,1" ∷ s.bodies) body);
      lines_is = ap (λ n. n + 1) s.lines_is ∙ sym (length-append s.bodies (body ∷ []));
      head_is =
          s.head_is ∙ ap (all_in_head s.bodies) moved
          ∙ ap (λ bs. record (head_of (MAX_BYTES - length ((trace ++ body) ++ 10 ∷ [])) (parted || is_parts body)
          (lines_of after)) { bodies = bs })
          (sym (append_assoc s.bodies (body ∷ [])
          (head_of (MAX_BYTES - length ((trace ++ body) ++ 10 ∷ [])) (parted || is_parts body) (lines_of after)).bodies));
      few = omega (arith, len, s.few);
      fits = omega (arith, len, room_is, s.fits);
      within = omega (arith, shorter, s.within);
    }

-- what was read of a text in the end
pub record HeadIs (text trace : List ℕ) (lines : ℕ) (stopped : Bool) (rest : List ℕ) : Type 0 where
  pub trace_is : trace ≡ trace_text (head_behind (lines_of text)).bodies
  pub lines_is : lines ≡ length (head_behind (lines_of text)).bodies
  pub few : lines ≤ MAX_BYTES
  pub stopped_is : stopped ≡ (head_behind (lines_of text)).stopped
  pub rest_is : lines_of rest ≡ (head_behind (lines_of text)).rest
  pub within : length rest ≤ length text

ended_by : (text trace : List ℕ) (lines : ℕ) (parted stopped : Bool) (rest : List ℕ) → HeadSoFar text trace lines parted rest
    → head_of (MAX_BYTES - length trace) parted (lines_of rest) ≡ none_of stopped (lines_of rest)
    → HeadIs text trace lines stopped rest
ended_by text trace lines parted stopped rest s e =
    let whole : head_behind (lines_of text) ≡ record { bodies = s.bodies; stopped = stopped; rest = lines_of rest } =
    s.head_is ∙ ap (all_in_head s.bodies) e
    ∙ ap (λ bs. record { bodies = bs; stopped = stopped; rest = lines_of rest }) (append-nil s.bodies) in
    record {
      trace_is = s.trace_is ∙ sym (ap (λ f. trace_text f.bodies) whole);
      lines_is = s.lines_is ∙ sym (ap (λ f. length f.bodies) whole);
      few = omega (arith, s.few, s.fits);
      stopped_is = sym (ap (λ f. f.stopped) whole);
      rest_is = sym (ap (λ f. f.rest) whole);
      within = s.within;
    }

pub head_other : (text trace : List ℕ) (lines : ℕ) (parted : Bool) (rest line after : List ℕ)
    → HeadSoFar text trace lines parted rest
    → lines_of rest ≡ line ∷ lines_of after → is_repeated line ≡ false → HeadIs text trace lines false rest
head_other text trace lines parted rest line after s cut rep =
    ended_by text trace lines parted false rest s
    (ap (head_of (MAX_BYTES - length trace) parted) cut
    ∙ cut_head (MAX_BYTES - length trace) parted line (lines_of after) (some_lines after) ∙ rw rep (ap (none_of false) (sym cut)))

pub head_stopped : (text trace : List ℕ) (lines : ℕ) (parted : Bool) (rest line after body : List ℕ)
    → HeadSoFar text trace lines parted rest
    → lines_of rest ≡ line ∷ lines_of after → is_repeated line ≡ true → body ≡ drop 2 line
    → (can_repeat parted body && has_room (MAX_BYTES - length trace) body) ≡ false → HeadIs text trace lines true rest
head_stopped text trace lines parted rest line after body s cut rep is cannot =
    let left = MAX_BYTES - length trace in
    let cannot_line : (can_repeat parted (drop 2 line) && has_room left (drop 2 line)) ≡ false =
    ap (λ b. can_repeat parted b && has_room left b) (sym is) ∙ cannot in
    ended_by text trace lines parted true rest s
    (ap (head_of left parted) cut ∙ cut_head left parted line (lines_of after) (some_lines after)
    ∙ rw (rep, cannot_line) (ap (none_of true) (sym cut)))

pub head_end : (text trace : List ℕ) (lines : ℕ) (parted : Bool) (rest : List ℕ) → HeadSoFar text trace lines parted rest
    → lines_of rest ≡ rest ∷ [] → HeadIs text trace lines false rest
unfolding head_of
head_end text trace lines parted rest s cut =
    ended_by text trace lines parted false rest s
    (ap (head_of (MAX_BYTES - length trace) parted) cut ∙ ap (none_of false) (sym cut))
