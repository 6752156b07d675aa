-- From entries that are put one after another to an answer in entries.
use Rattle.std.proofs.Common.{◌≡◌, ℕ, zero, suc, ◌+◌, ◌-◌, ◌<◌, Bool, true, false, List, [], ◌∷◌, ◌++◌, length, refl, sym, ◌∙◌, ap, subst, arith, append_assoc, append-nil, length-append}
use Rattle.std.specs.Prelude.{◌||◌, if◌then◌else◌}
use Rattle.std.specs.List.{list_any}
use Rattle.std.proofs.lemmas.Grind.{flat_map-append}
use Rattle.tl_chain.specs.declared.Drawn.{Drawn}
use Rattle.tl_chain.specs.declared.Drawn.TheVariants.{At, Late}
use Rattle.tl_io.specs.States.{SinkState}
use Rattle.tl_outcomes.specs.declared.noted.Noted.{Noted}
use Rattle.tl_outcomes.specs.Entries.{Entry, Entries}
use Rattle.tl_outcomes.specs.Outcomes.{entry_of}
use Rattle.tl_run.specs.Answers.{answer, is_whole}
use Rattle.tl_run.specs.Draws.{is_late_draw}
use Rattle.tl_run.specs.InEntries.{AreEntries, entries_text, entries_status, told_entries, IsInEntries}
use Rattle.tl_run.specs.Pages.{Gathers}
use Rattle.tl_run.specs.Writing.{Appends, Begins, Cuts, Writing}
use Rattle.tl_run.proofs.PageLemmas.{Gathers-more, Cuts-gathered}
use Rattle.tl_run.proofs.WritingLemmas.{Appends-more, Cuts-second, Writing-whole, Writing-cut}

-- ---- entries one after another

AreEntries-append : (P : Entries) (n m : ℕ) (ps qs : List Entry) → m ≡ n + length ps → AreEntries P n ps → AreEntries P m qs → AreEntries P n (ps ++ qs)
AreEntries-append P n m [] qs e a b = subst (λ (k : ℕ). AreEntries P k qs) (omega (arith, e)) b
AreEntries-append P n m (p ∷ ps) qs e a b = (a.0, AreEntries-append P (n + 1) m ps qs (omega (arith, e)) a.1 b)

entries_text-append : (ps qs : List Entry) → entries_text (ps ++ qs) ≡ entries_text ps ++ entries_text qs
entries_text-append ps qs = flat_map-append (λ (p : Entry). p.text) ps qs

-- one entry more
text-more : (head : List ℕ) (ps : List Entry) (p : Entry) → (head ++ entries_text ps) ++ p.text ≡ head ++ entries_text (ps ++ (p ∷ []))
text-more head ps p =
    append_assoc head (entries_text ps) p.text
    ∙ ap (λ (l : List ℕ). head ++ l) (sym (entries_text-append ps (p ∷ []) ∙ ap (λ (l : List ℕ). entries_text ps ++ l) (append-nil p.text)))

late-more : (ps : List Entry) (p : Entry) → list_any (λ q. q.is_late) (ps ++ (p ∷ [])) ≡ (p.is_late || list_any (λ q. q.is_late) ps)
late-more [] p = refl
late-more (q ∷ ps) p = go q.is_late p.is_late (list_any (λ r. r.is_late) ps) (list_any (λ r. r.is_late) (ps ++ (p ∷ []))) (late-more ps p)
  where
    go : (a b c d : Bool) → d ≡ (b || c) → (a || d) ≡ (b || (a || c))
    go true true c d e = refl
    go true false c d e = refl
    go false b c d e = e

status-more : (ps : List Entry) (p : Entry) (draw : Drawn) → p.is_late ≡ is_late_draw draw
    → (if is_late_draw draw then 7 else entries_status ps) ≡ entries_status (ps ++ (p ∷ []))
status-more ps p draw told = go draw told (late-more ps p)
  where
    go : (d : Drawn) → p.is_late ≡ is_late_draw d → list_any (λ q. q.is_late) (ps ++ (p ∷ [])) ≡ (p.is_late || list_any (λ q. q.is_late) ps)
        → (if is_late_draw d then 7 else entries_status ps) ≡ entries_status (ps ++ (p ∷ []))
    go (At T) e more = sym (ap (λ (b : Bool). if b then 7 else 0) (more ∙ ap (λ (b : Bool). b || list_any (λ q. q.is_late) ps) e))
    go Late e more = sym (ap (λ (b : Bool). if b then 7 else 0) (more ∙ ap (λ (b : Bool). b || list_any (λ q. q.is_late) ps) e))

status-whole : (ps : List Entry) → is_whole (entries_status ps) ≡ true
status-whole ps = go (list_any (λ p. p.is_late) ps)
  where
    go : (b : Bool) → is_whole (if b then 7 else 0) ≡ true
    go true = refl
    go false = refl

-- so many numbers have entries, where each number has one
entries-from : (P : Entries) (n k : ℕ) → ((m : ℕ) → (p : Entry) × P m p) → (ps : List Entry) × (length ps ≡ k) × AreEntries P n ps
entries-from P n zero each = ([], refl, tt)
entries-from P n (suc k) each =
    let (p, is) = each n in
    let (ps, count, are) = entries-from P (n + 1) k each in
    (p ∷ ps, omega (arith, count), (is, are))

-- ---- what is gathered and written

-- A head and the entries of the numbers below n were put, some bytes of them wait, and this is their status.
pub record AreGathered (P : Entries) (head : List ℕ) (n status : ℕ) (waiting : List ℕ) (sink sink' : SinkState) : Type 0 where
  pub entries : List Entry
  pub count : length entries ≡ n
  pub each : AreEntries P 0 entries
  pub status_is : status ≡ entries_status entries
  pub gathered : Gathers [] (head ++ entries_text entries) waiting sink sink'

module _ (P : Entries) (head : List ℕ) where
  -- only the head
  pub none-gathered : (waiting : List ℕ) (sink sink' : SinkState) → Gathers [] head waiting sink sink' → AreGathered P head 0 0 waiting sink sink'
  none-gathered waiting sink sink' g = record {
    entries = [];
    count = refl;
    each = tt;
    status_is = refl;
    gathered = subst (λ (l : List ℕ). Gathers [] l waiting sink sink') (sym (append-nil head)) g;
  }

  -- one entry more
  pub one-gathered : (n status : ℕ) (entry : Entry) (draw : Drawn) (waiting waiting' : List ℕ) (sink mid sink' : SinkState)
      → AreGathered P head n status waiting sink mid → P n entry → entry.is_late ≡ is_late_draw draw → Gathers waiting entry.text waiting' mid sink'
      → AreGathered P head (n + 1) (if is_late_draw draw then 7 else status) waiting' sink sink'
  one-gathered n status entry draw waiting waiting' sink mid sink' w is told more = record {
    entries = w.entries ++ (entry ∷ []);
    count = length-append w.entries (entry ∷ []) ∙ ap (λ (k : ℕ). k + 1) w.count;
    each = AreEntries-append P 0 n w.entries (entry ∷ []) (omega (arith, w.count)) w.each (is, tt);
    status_is = ap (λ (k : ℕ). if is_late_draw draw then 7 else k) w.status_is ∙ status-more w.entries entry draw told;
    gathered =
        subst (λ (l : List ℕ). Gathers [] l waiting' sink sink') (text-more head w.entries entry)
        (Gathers-more [] (head ++ entries_text w.entries) waiting entry.text waiting' sink mid sink' w.gathered more);
  }

  module _ (count : ℕ) where
    -- all of them, and what waited was written
    pub all-written : (status : ℕ) (waiting : List ℕ) (sink mid sink' : SinkState) → AreGathered P head count status waiting sink mid
        → Appends waiting mid sink' → Writing (IsInEntries P head count) true sink sink' status
    all-written status waiting sink mid sink' w last =
        Writing-whole (IsInEntries P head count) true (head ++ entries_text w.entries) sink sink' status
        (subst (λ (l : List ℕ). Appends l sink sink') (sym w.gathered.in_order)
        (Appends-more w.gathered.out waiting sink mid sink' w.gathered.written last)) (ap is_whole w.status_is ∙ status-whole w.entries)
        (record { entries = w.entries; count_is = w.count; each = w.each; is = ap (λ (s : ℕ). answer (head ++ entries_text w.entries) s) w.status_is })

    -- the write of what waited failed
    pub last-cut : (status : ℕ) (waiting : List ℕ) (sink mid sink' : SinkState) → AreGathered P head count status waiting sink mid
        → Cuts waiting mid sink' → Writing (IsInEntries P head count) true sink sink' 5
    last-cut status waiting sink mid sink' w cut =
        Writing-cut (IsInEntries P head count) true (head ++ entries_text w.entries) sink sink'
        (subst (λ (l : List ℕ). Cuts l sink sink') (sym w.gathered.in_order) (Cuts-second w.gathered.out waiting sink mid sink' w.gathered.written cut)) (
          told_entries head w.entries,
          record { entries = w.entries; count_is = w.count; each = w.each; is = refl },
          ([], append-nil (head ++ entries_text w.entries)),
        )

    module _ (ever : (n : ℕ) → (p : Entry) × P n p) where
      -- a write failed when the head was put
      pub head-cut : (sink sink' : SinkState) → Cuts head sink sink' → Writing (IsInEntries P head count) true sink sink' 5
      head-cut sink sink' c =
          let (ps, count_is, each) = entries-from P 0 count ever in
          Writing-cut (IsInEntries P head count) true head sink sink' c
          (told_entries head ps, record { entries = ps; count_is = count_is; each = each; is = refl }, (entries_text ps, refl))

      -- what was written, up to a entry, begins an answer
      begins : (n : ℕ) (ps : List Entry) (p : Entry) → n < count → length ps ≡ n → AreEntries P 0 ps → P n p
          → Begins (IsInEntries P head count) ((head ++ entries_text ps) ++ p.text)
      begins n ps p below long each is =
          let (more, left, others) = entries-from P (n + 1) (count - (n + 1)) ever in
          let all : List Entry = ps ++ (p ∷ more) in
          let whole : entries_text all ≡ entries_text ps ++ (p.text ++ entries_text more) = entries_text-append ps (p ∷ more) in (
            told_entries head all,
            record {
              entries = all;
              count_is = length-append ps (p ∷ more) ∙ sizes (length ps) (length more) long left;
              each = AreEntries-append P 0 n ps (p ∷ more) (omega (arith, long)) each (is, others);
              is = refl;
            },
            (
              entries_text more,
              append_assoc (head ++ entries_text ps) p.text (entries_text more) ∙ append_assoc head (entries_text ps) (p.text ++ entries_text more)
                  ∙ ap (λ (l : List ℕ). head ++ l) (sym whole),
            ),
          )
        where
          sizes : (a b : ℕ) → a ≡ n → b ≡ count - (n + 1) → a + suc b ≡ count
          sizes a b e f = omega (arith, e, f, below)

      -- a write failed when an entry was put
      pub entry-cut : (n status : ℕ) (entry : Entry) (waiting : List ℕ) (sink mid sink' : SinkState) → n < count
          → AreGathered P head n status waiting sink mid → P n entry → Cuts (waiting ++ entry.text) mid sink'
          → Writing (IsInEntries P head count) true sink sink' 5
      entry-cut n status entry waiting sink mid sink' below w is cut =
          Writing-cut (IsInEntries P head count) true ((head ++ entries_text w.entries) ++ entry.text) sink sink'
          (Cuts-gathered [] (head ++ entries_text w.entries) waiting entry.text sink mid sink' w.gathered cut)
          (begins n w.entries entry below w.count w.each is)

-- ---- the entry of an outcome

-- it is late just where the draw is
pub entry_of-late : (draw : Drawn) (noted : Noted) (n : ℕ) → (entry_of draw noted n).is_late ≡ is_late_draw draw
entry_of-late (At T) noted n = refl
entry_of-late Late noted n = refl
