-- From what a run reads and writes to the run.
use Rattle.std.proofs.Common.{◌≡◌, inl, inr, ℕ, ◌+◌, ◌≤◌, ◌<◌, Bool, true, false, List, [], ◌++◌, length, Option, Some, None, refl, sym, ◌∙◌, ap, subst, arith, append-nil, length-append}
use Rattle.std.specs.Prelude.{◌==◌, MatchBool, IfSome, unwrap_or, not, ◌&&◌}
use Rattle.std.specs.Io.KnownBytes.{prepend_known, IsAtEnd}
use Rattle.tl_io.specs.Counts.{Rose}
use Rattle.tl_io.specs.States.{SourceState, SinkState}
use Rattle.tl_io.proofs.Known.{append_known-nil}
use Rattle.tl_formats.specs.declared.TheConstants.{INPUT_LIMIT}
use Rattle.tl_run.specs.Answers.{Answer, answer, Allows, Is, is_whole}
use Rattle.tl_run.specs.Refusals.{read_fault, input_too_long}
use Rattle.tl_run.specs.Replies.{Meaning, WithoutInput, ByInput, reads_input, Answers}
use Rattle.tl_run.specs.Reading.{FailsEarly, read_fault_status}
use Rattle.tl_run.specs.Writing.{Writing}
use Rattle.tl_run.specs.Runs.{RunAnswers, Runs}
use Rattle.tl_run.proofs.ReaderLemmas.{IsHeard, OfInput-long}
use Rattle.tl_run.proofs.WritingLemmas.{Begins-weaker, Writing-weaker}

-- ---- what a source tells

-- the bytes that are left, or none where they aren't told
abbrev left_of : Option (List ℕ) → List ℕ
left_of known = unwrap_or known []

left-is : (known : Option (List ℕ)) → IfSome known (λ bytes. bytes ≡ left_of known)
left-is None = tt
left-is (Some bytes) = refl

left-at_end : (known : Option (List ℕ)) → IsAtEnd known → left_of known ≡ []
left-at_end None e = refl
left-at_end (Some rest) e = e

prepend_known-nil : (known : Option (List ℕ)) → known ≡ prepend_known [] known
prepend_known-nil None = refl
prepend_known-nil (Some bytes) = refl

-- ---- answers

RunAnswers-heard : (m : Meaning) (input : List ℕ) (fails : Type 0) (a : Answer) → IsHeard a → Answers m input a → RunAnswers m input fails a
RunAnswers-heard m input fails a h p = subst (λ (b : Bool). MatchBool b (fails × Is read_fault a) (Answers m input a)) (sym h) p

RunAnswers-fault : (m : Meaning) (input : List ℕ) (fails : Type 0) (a : Answer) → fails → Is read_fault a → RunAnswers m input fails a
RunAnswers-fault m input fails a f e =
    subst (λ (b : Bool). MatchBool b (fails × Is read_fault a) (Answers m input a)) (sym (ap (λ (b : Answer). b.status == read_fault_status) e)) (f, e)

-- a status that a run of heard answers ends with isn't that of a failed read
heard-status : (P : Allows) (silent : Bool) (sink sink' : SinkState) (status : ℕ) → ((a : Answer) → P a → IsHeard a) → Writing P silent sink sink' status
    → status ≡ read_fault_status → ⊥
heard-status P silent sink sink' status heard w e =
    let whole : is_whole status ≡ true = ap is_whole e in
    let apart : (status == read_fault_status) ≡ false = heard (answer w.out status) (w.whole whole) in
    cc (ap (λ (n : ℕ). n == read_fault_status) e, apart)

-- ---- runs

-- nothing was read, and what needs no input was answered
pub runs-unasked : (m : Meaning) (silent : Bool) (source : SourceState) (sink sink' : SinkState) (status : ℕ) → reads_input m ≡ false
    → ((a : Answer) → Answers m [] a → IsHeard a) → Writing (Answers m []) true sink sink' status → Runs m silent source source sink sink' status
runs-unasked m silent source sink sink' status unread heard w = record {
  came = [];
  left = left_of source.left;
  reading = record {
    came_is = prepend_known-nil source.left;
    left_is = left-is source.left;
    nothing = λ e. refl;
    all = λ h. cc (unread, and_left (reads_input m) (is_whole status) (not (status == read_fault_status)) h);
    failed = λ e. absurd (heard-status (Answers m []) true sink sink' status heard w e);
    steady = λ h. refl;
  };
  writing = Writing-weaker (Answers m []) _ silent sink sink' status
      (λ a p. RunAnswers-heard m (left_of source.left) _ a (heard a p) (anywhere m unread a p)) w;
}
  where
    and_left : (a b c : Bool) → (a && b && c) ≡ true → a ≡ true
    and_left true b c e = refl
    and_left false true c e = cc e
    and_left false false c e = cc e

    anywhere : (m : Meaning) → reads_input m ≡ false → (a : Answer) → Answers m [] a → Answers m (left_of source.left) a
    anywhere (WithoutInput P) e a p = p
    anywhere (ByInput P) e a p = cc e

-- the whole input was read, and answered
pub runs-input : (m : Meaning) (silent : Bool) (source source' : SourceState) (sink sink' : SinkState) (status : ℕ) (bytes : List ℕ) → reads_input m ≡ true
    → source.left ≡ prepend_known bytes source'.left → IsAtEnd source'.left → source'.faults ≡ source.faults
    → ((a : Answer) → Answers m bytes a → IsHeard a) → Writing (Answers m bytes) silent sink sink' status → Runs m silent source source' sink sink' status
runs-input m silent source source' sink sink' status bytes reads came end steady heard w =
    let nothing_left : left_of source'.left ≡ [] = left-at_end source'.left end in
    let whole : bytes ++ left_of source'.left ≡ bytes = ap (λ (l : List ℕ). bytes ++ l) nothing_left ∙ append-nil bytes in
    let answers : (a : Answer) → Answers m bytes a → RunAnswers m (bytes ++ left_of source'.left) (FailsEarly (reads_input m) source source' bytes) a =
    λ a p. RunAnswers-heard m (bytes ++ left_of source'.left) _ a (heard a p) (subst (λ (l : List ℕ). Answers m l a) (sym whole) p) in
    record {
      came = bytes;
      left = left_of source'.left;
      reading = record {
        came_is = came;
        left_is = left-is source'.left;
        nothing = λ e. cc (e, reads);
        all = λ h k. nothing_left;
        failed = λ e. absurd (heard-status (Answers m bytes) silent sink sink' status heard w e);
        steady = λ h. steady;
      };
      writing = record {
        out = w.out;
        held = w.held;
        whole = λ h. answers (answer w.out status) (w.whole h);
        steady = w.steady;
        cut = λ e. Begins-weaker _ _ w.out answers (w.cut e);
        failed = w.failed;
        stopped = λ e. elim (w.stopped e) [ inl n ↦ inl n | inr b ↦ inr (Begins-weaker _ _ w.out answers b) ];
        silence = w.silence;
      };
    }

-- more came than an input may have
pub runs-long : (m : Meaning) (silent : Bool) (source source' : SourceState) (sink sink' : SinkState) (status : ℕ) (bytes : List ℕ) → reads_input m ≡ true
    → source.left ≡ prepend_known bytes source'.left → length bytes ≡ INPUT_LIMIT + 1 → source'.faults ≡ source.faults
    → Writing (Is input_too_long) true sink sink' status → Runs m silent source source' sink sink' status
runs-long (WithoutInput P) silent source source' sink sink' status bytes reads came long steady w = cc reads
runs-long (ByInput P) silent source source' sink sink' status bytes reads came long steady w =
    let longer : INPUT_LIMIT < length (bytes ++ left_of source'.left) = omega (arith, long, length-append bytes (left_of source'.left)) in
    record {
      came = bytes;
      left = left_of source'.left;
      reading = record {
        came_is = came;
        left_is = left-is source'.left;
        nothing = λ e. cc e;
        all = λ h k. absurd (omega (arith, k, longer));
        failed = λ e. absurd (heard-status (Is input_too_long) true sink sink' status (λ a u. ap (λ (b : Answer). b.status == read_fault_status) u) w e);
        steady = λ h. steady;
      };
      writing = Writing-weaker (Is input_too_long) _ silent sink sink' status
          (λ a u. RunAnswers-heard (ByInput P) (bytes ++ left_of source'.left) _ a (ap (λ (b : Answer). b.status == read_fault_status) u)
          (OfInput-long (bytes ++ left_of source'.left) (P (bytes ++ left_of source'.left)) a longer u)) w;
    }

-- a read failed
pub runs-fault : (m : Meaning) (silent : Bool) (source source' : SourceState) (sink sink' : SinkState) (status : ℕ) (bytes : List ℕ) → reads_input m ≡ true
    → source.left ≡ prepend_known bytes source'.left → length bytes ≤ INPUT_LIMIT → Rose source.faults source'.faults
    → Writing (Is read_fault) true sink sink' status → Runs m silent source source' sink sink' status
runs-fault m silent source source' sink sink' status bytes reads came short rose w =
    let fails : FailsEarly (reads_input m) source source' bytes = record { asked = reads; rose = rose; early = short } in
    let told : (is_whole status && not (status == read_fault_status)) ≡ true → ⊥ = λ h. faulty (is_whole status) (status == read_fault_status) h refl refl in
    record {
      came = bytes;
      left = left_of source'.left;
      reading = record {
        came_is = came;
        left_is = left-is source'.left;
        nothing = λ e. cc (e, reads);
        all = λ h k. absurd (told (rest_of (reads_input m) (is_whole status) (not (status == read_fault_status)) h));
        failed = λ e. fails;
        steady = λ h. absurd (told h);
      };
      writing = Writing-weaker (Is read_fault) _ silent sink sink' status
          (λ a u. RunAnswers-fault m (bytes ++ left_of source'.left) _ a fails u) w;
    }
  where
    rest_of : (a b c : Bool) → (a && b && c) ≡ true → (b && c) ≡ true
    rest_of true b c e = e
    rest_of false true c e = cc e
    rest_of false false c e = cc e

    faulty : (b c : Bool) → (b && not c) ≡ true → is_whole status ≡ b → (status == read_fault_status) ≡ c → ⊥
    faulty true true e f g = cc e
    faulty false true e f g = cc e
    faulty true false e f g = let is : status ≡ 4 = ap (λ (a : Answer). a.status) (w.whole f) in cc (g, ap (λ (n : ℕ). n == read_fault_status) is)
    faulty false false e f g = cc e

-- memory was wanted before anything was written
pub runs-memory : (m : Meaning) (silent : Bool) (source source' : SourceState) (sink : SinkState) (bytes : List ℕ) → (reads_input m ≡ false → bytes ≡ [])
    → source.left ≡ prepend_known bytes source'.left → Runs m silent source source' sink sink 6
runs-memory m silent source source' sink bytes unread came = record {
  came = bytes;
  left = left_of source'.left;
  reading = record {
    came_is = came;
    left_is = left-is source'.left;
    nothing = unread;
    all = λ h k. none (reads_input m) h;
    failed = λ e. cc e;
    steady = λ h. cc h;
  };
  writing = record {
    out = [];
    held = sym (append_known-nil sink.held);
    whole = λ h. cc h;
    steady = λ h. cc h;
    cut = λ e. cc e;
    failed = λ e. cc e;
    stopped = λ e. inl refl;
    silence = λ e h. refl;
  };
}
  where
    none : {A : Type 0} (a : Bool) → (a && false && true) ≡ true → A
    none true e = cc e
    none false e = cc e

-- memory was wanted before anything was read: a run, whatever the words
pub runs-unread : (m : Meaning) (silent : Bool) (source : SourceState) (sink : SinkState) → Runs m silent source source sink sink 6
runs-unread m silent source sink = runs-memory m silent source source sink [] (λ e. refl) (prepend_known-nil source.left)
