-- What meets the promise of a run, and what near it doesn't.
use Rattle.std.proofs.Common.{◌≡◌, ℕ, true, false, List, [], ◌++◌, Option, Some, None, ◌<◌, lit<, refl, ◌∙◌, ap, arith, codes}
use Rattle.std.specs.Prelude.{slice_get, unwrap_or}
use Rattle.tl_lists.proofs.Tests.{some_same}
use Rattle.tl_io.specs.States.{SourceState, SinkState}
use Rattle.tl_run.specs.Answers.{Answer, answer, Is, Says}
use Rattle.tl_run.specs.Refusals.{usage, usage_text}
use Rattle.tl_run.specs.Reading.{Reading}
use Rattle.tl_run.specs.Writing.{Writing}
use Rattle.tl_run.specs.Replies.{asked}
use Rattle.tl_run.specs.Runs.{IsRun}
use Rattle.tl_run.proofs.ReaderLemmas.{Is-heard}
use Rattle.tl_run.proofs.RunLemmas.{runs-unasked}
use Rattle.tl_run.proofs.WritingLemmas.{Appends-more, Cuts-second, Writing-whole, Writing-cut}

abbrev left_of : Option (List ℕ) → List ℕ
left_of known = unwrap_or known []

abbrev unread : SourceState
unread = record { left = Some (codes "abc"); faults = 0 }

abbrev told : List ℕ → ℕ → SinkState
told held faults = record { held = Some held; faults = faults }

-- no words: the usage, and the source as it was
no_words : IsRun [] unread unread (told [] 0) (told usage_text 0) 2
no_words = runs-unasked (asked []) true unread (told [] 0) (told usage_text 0) 2 refl (λ a. Is-heard usage a refl) (Writing-whole (Is usage) true usage_text (told [] 0) (told usage_text 0) 2 (record { held = refl; steady = refl }) refl refl)

-- the same, with another status, with another text, or with a byte read
no_words-answered : IsRun [] unread unread (told [] 0) (told usage_text 0) 0 → ⊥
no_words-answered r = let status : 0 ≡ 2 = ap (λ (a : Answer). a.status) (r.writing.whole refl) in cc status

no_words-silent : IsRun [] unread unread (told [] 0) (told [] 0) 2 → ⊥
no_words-silent r =
    let out : List ℕ = r.writing.out in
    let is : out ≡ usage_text = ap (λ (a : Answer). a.text) (r.writing.whole refl) in
    let empty : [] ≡ out = ap left_of r.writing.held in
    let first : None ≡ Some 117 = ap (λ (l : List ℕ). slice_get l 0) (empty ∙ is) in
    cc first

no_words-read : IsRun [] unread (record { left = Some (codes "bc"); faults = 0 }) (told [] 0) (told usage_text 0) 2 → ⊥
no_words-read r = cc (r.reading.nothing refl, r.reading.came_is)

-- an input that isn't read to its end, and a fault that isn't told
unread_rest : Reading true unread (record { left = Some (codes "c"); faults = 0 }) (codes "ab") (codes "c") 0 → ⊥
unread_rest r = cc (r.all refl (omega arith))

untold_fault : Reading true unread (record { left = Some []; faults = 1 }) (codes "abc") [] 0 → ⊥
untold_fault r = cc (r.steady refl)

-- a text in two pieces, whole and cut
two_pieces : Writing (Says (codes "abcd") 0) false (told [] 0) (told (codes "abcd") 0) 0
two_pieces =
    Writing-whole (Says (codes "abcd") 0) false (codes "ab" ++ codes "cd") (told [] 0) (told (codes "abcd") 0) 0
    (Appends-more (codes "ab") (codes "cd") (told [] 0) (told (codes "ab") 0) (told (codes "abcd") 0) (record { held = refl; steady = refl }) (record { held = refl; steady = refl }))
    refl refl

cut_piece : Writing (Says (codes "abcd") 0) false (told [] 0) (told (codes "abc") 1) 5
cut_piece =
    Writing-cut (Says (codes "abcd") 0) false (codes "ab" ++ codes "cd") (told [] 0) (told (codes "abc") 1)
    (Cuts-second (codes "ab") (codes "cd") (told [] 0) (told (codes "ab") 0) (told (codes "abc") 1) (record { held = refl; steady = refl })
    (record { part = record { part = codes "c"; is_prefix = (codes "d", refl); appended = refl }; rose = omega arith }))
    (answer (codes "abcd") 0, refl, ([], refl))

-- a write that failed and isn't told, and another text that begins otherwise
untold_cut : Writing (Says (codes "abcd") 0) false (told [] 0) (told (codes "abcd") 1) 0 → ⊥
untold_cut w = cc (w.steady refl)

other_text : Writing (Says (codes "abcd") 0) false (told [] 0) (told (codes "x") 1) 5 → ⊥
other_text w =
    let (a, is, (rest, begins)) = w.cut refl in
    let out : codes "x" ≡ w.out = ap left_of w.held in
    let whole : codes "x" ++ rest ≡ codes "abcd" = ap (λ (l : List ℕ). l ++ rest) out ∙ begins ∙ ap (λ (b : Answer). b.text) is in
    apart 120 97 (some_same 120 97 (ap (λ (l : List ℕ). slice_get l 0) whole)) (lit< tt)
  where
    apart : (m n : ℕ) → m ≡ n → n < m → ⊥
    apart m n e h = omega (arith, e, h)
