-- What an outcome says, both ways: accepted where every row holds, refused at the first broken place. And the laws by
-- which a chain of rows in the code is proved.
-- Assumes nothing.
use Prim.Native.Nat.{ℕ, ◌≤◌, ◌<◌}
use mathlib.Core.Path.{◌≡◌, refl, sym, ap, ◌∙◌, subst}
use mathlib.Core.Logic.{◌⊎◌, inl, inr, ⊎_elim, ◌↔◌}
use mathlib.Core.Bool.{Bool, true, false, false≢true}
use mathlib.Core.List.{List, [], ◌∷◌, ◌++◌}
use borrow.Author.Tests.{lt-ltb, le-ltb}
use Rattle.std.proofs.lemmas.Bool.Decides.{leb_tells}
use native.Mathlib.Nat.{eq-or-lt_of_le, le_refl}
use native.Mathlib.Omega.{arith}
use Rattle.folder.specs.Scan.{first_bad}
use Rattle.folder.specs.Table.{Row, Rule, row, single, refused, cause, all_rules, first_broken, outcome, Holds, AllHold, none, more, BrokenAt, Broken, BrokenRule, Outcome}
use Rattle.folder.specs.declared.Refusal.{Refusal}
use Rattle.folder.specs.declared.Cause.{Cause}
use Rattle.folder.proofs.Decides.{Decides}
use Rattle.folder.proofs.ScanLaws.{found, all-passed, all_found, found_at}
use Rattle.std.specs.Prelude.{Err, Ok, leb}

-- ---- a chain of rows in the code, one law for each way
module _ (r : Row) (rs : List Row) (p : ℕ) (e : p ≡ first_bad r.ok r.count) where
  row-refused : p < r.count → outcome (r ∷ rs) ≡ Err (r.gives p)
  unfolding outcome
  row-refused l = rw (← e) (simp (lt-ltb p r.count l))

  row-passed : r.count ≤ p → outcome (r ∷ rs) ≡ outcome rs
  unfolding outcome
  row-passed l = rw (← e) (simp (le-ltb p r.count l))

-- Of the rows of `whole`, those before rs hold.
pub record Rest (whole rs : List Row) : Type 0 where
  pub same : outcome whole ≡ outcome rs

pub no_row : (whole : List Row) → Rest whole whole
no_row whole = record { same = refl }

pub all-rows : {whole : List Row} → Rest whole [] → (Ok tt) ≡ outcome whole
unfolding outcome
all-rows h = sym h.same

-- The rest is what another function answers.
pub rest_of : {whole rs : List Row} {o : Outcome} → Rest whole rs → o ≡ outcome rs → o ≡ outcome whole
rest_of h e = e ∙ sym h.same

-- The code has n places, and its scan answered p.
module _ {whole : List Row} {r : Row} {rs : List Row} (h : Rest whole (r ∷ rs)) {n p : ℕ} (q : n ≡ r.count) (e : p ≡ first_bad r.ok n) where
  pub refuses : p < n → Err (r.gives p) ≡ outcome whole
  refuses l = sym (h.same ∙ row-refused r rs p (e ∙ ap (first_bad r.ok) q) (omega arith))

  pub row-holds : n ≤ p → Rest whole rs
  row-holds l = record { same = h.same ∙ row-passed r rs p (e ∙ ap (first_bad r.ok) q) (omega arith) }

-- A row of one test, whose answer is t.
module _ {whole rs : List Row} {number place : ℕ} {ok : Bool} (h : Rest whole (single number place ok ∷ rs)) {t : Bool} (e : t ≡ ok) where
  pub test-refuses : t ≡ false → refused number place ≡ outcome whole
  test-refuses f = refuses h {n = 1} {p = 0} refl (sym (found_at (λ _. ok) 1 0 (omega arith) (λ k l. absurd (omega arith)) (sym e ∙ f))) (omega arith)

  pub test-holds : t ≡ true → Rest whole rs
  test-holds f = row-holds h {n = 1} {p = 1} refl (sym (all_found (λ _. ok) 1 (λ k l. sym e ∙ f))) (omega arith)

-- ---- what an outcome says
abbrev first : Row → ℕ
first r = first_bad r.ok r.count

abbrev Ways : Row → Type 0
Ways r = (first r ≡ r.count) ⊎ (first r < r.count)

ways : (r : Row) → Ways r
ways r = eq-or-lt_of_le (found r.ok r.count).within

holds_of : (r : Row) → first r ≡ r.count → Holds r
holds_of r q = record { at = all-passed r.ok r.count (sym q) (le_refl r.count) }

passed-of : (r : Row) (rs : List Row) → first r ≡ r.count → outcome (r ∷ rs) ≡ outcome rs
passed-of r rs q = row-passed r rs (first r) refl (omega arith)

broken-of : (r : Row) (f : Refusal) → first r < r.count → r.gives (first r) ≡ f → BrokenAt r f
broken-of r f l e =
    let h = found r.ok r.count in
    record { at = first r; place = l; gives = e; broken = h.broken l; before = h.before }

refused-of : (r : Row) (rs : List Row) → first r < r.count → outcome (r ∷ rs) ≡ Err (r.gives (first r))
refused-of r rs l = row-refused r rs (first r) refl l

not-both : {A : Type 0} {o : Outcome} {f : Refusal} → o ≡ (Ok tt) → o ≡ Err f → A
not-both e f = let z : ◌≡◌ {A = ℕ} 0 1 = cc in absurd (omega arith)

accepted-row : (r : Row) (rs : List Row) → Ways r → outcome (r ∷ rs) ≡ (Ok tt) → Holds r × (outcome rs ≡ (Ok tt))
accepted-row r rs (inl q) e = (holds_of r q, sym (passed-of r rs q) ∙ e)
accepted-row r rs (inr l) e = not-both e (refused-of r rs l)

accepted-holds : (rs : List Row) → outcome rs ≡ (Ok tt) → AllHold rs
accepted-holds [] e = none
accepted-holds (r ∷ rs) e = let h = accepted-row r rs (ways r) e in more h.0 (accepted-holds rs h.1)

passes : (r : Row) (rs : List Row) → Holds r → outcome (r ∷ rs) ≡ outcome rs
passes r rs h = passed-of r rs (all_found r.ok r.count h.at)

holds-accepted : {rs : List Row} → AllHold rs → outcome rs ≡ (Ok tt)
unfolding outcome
holds-accepted none = refl
holds-accepted (more {r = r} {rs = rs} h t) = passes r rs h ∙ holds-accepted t

refused-row : (r : Row) (rs : List Row) (f : Refusal) → Ways r → outcome (r ∷ rs) ≡ Err f → BrokenAt r f ⊎ (Holds r × (outcome rs ≡ Err f))
refused-row r rs f (inl q) e = inr (holds_of r q, sym (passed-of r rs q) ∙ e)
refused-row r rs f (inr l) e =
    let h : outcome (r ∷ rs) ≡ Err (r.gives (first r)) = refused-of r rs l in
    inl (broken-of r f l (cc))

pub refused-broken : (rs : List Row) (f : Refusal) → outcome rs ≡ Err f → Broken rs f
unfolding outcome
refused-broken [] f e = not-both refl e
refused-broken (r ∷ rs) f e =
    ⊎_elim (λ b. Broken.here b) (λ h. Broken.later h.0 (refused-broken rs f h.1)) (refused-row r rs f (ways r) e)

pub broken-refused : {rs : List Row} {f : Refusal} → Broken rs f → outcome rs ≡ Err f
broken-refused (Broken.here {r = r} {rs = rs} b) =
    row-refused r rs b.at (sym (found_at r.ok r.count b.at b.place b.before b.broken)) b.place ∙ ap Err b.gives
broken-refused (Broken.later {r = r} {rs = rs} h b) = passes r rs h ∙ broken-refused b

-- ---- what each row of a table asks, and all of them
pub row-asks : (r : Row) {P : ℕ → Type 0} → ((p : ℕ) → Decides (P p) (r.ok p)) → Holds r ↔ ((p : ℕ) → p < r.count → P p)
row-asks r d = ((λ h p l. (d p).yes (h.at p l)), λ f. record { at = λ p l. (d p).no (f p l) })

pub single-asks : {P : Type 0} (number place : ℕ) {ok : Bool} → Decides P ok → Holds (single number place ok) ↔ P
single-asks number place d = ((λ h. d.yes (h.at 0 (omega arith))), λ p. record { at = λ k l. d.no p })

head-holds : {r : Row} {rs : List Row} → AllHold (r ∷ rs) → Holds r
head-holds (more h t) = h

tail-holds : {r : Row} {rs : List Row} → AllHold (r ∷ rs) → AllHold rs
tail-holds (more h t) = t

infixr 20 ◌row-and◌
pub ◌row-and◌ : {r : Row} {rs : List Row} {P Q : Type 0} → Holds r ↔ P → AllHold rs ↔ Q → AllHold (r ∷ rs) ↔ (P × Q)
p row-and q = ((λ a. (p.0 (head-holds a), q.0 (tail-holds a))), λ h. more (p.1 h.0) (q.1 h.1))

pub no_rows : AllHold [] ↔ Unit {0}
no_rows = ((λ a. tt), λ u. none)

-- The same in other words.
pub put-so : {A P Q : Type 0} → A ↔ P → (P → Q) → (Q → P) → A ↔ Q
put-so e f g = ((λ a. f (e.0 a)), λ q. e.1 (g q))

first-hold : (xs ys : List Row) → AllHold (xs ++ ys) → AllHold xs
first-hold [] ys a = none
first-hold (x ∷ xs) ys a = more (head-holds a) (first-hold xs ys (tail-holds a))

then-hold : (xs ys : List Row) → AllHold (xs ++ ys) → AllHold ys
then-hold [] ys a = a
then-hold (x ∷ xs) ys a = then-hold xs ys (tail-holds a)

all_hold : {xs ys : List Row} → AllHold xs → AllHold ys → AllHold (xs ++ ys)
all_hold none b = b
all_hold (more h a) b = more h (all_hold a b)

-- A table after a table.
pub tables-ask : (xs : List Row) {ys : List Row} {P Q : Type 0} → AllHold xs ↔ P → AllHold ys ↔ Q → AllHold (xs ++ ys) ↔ (P × Q)
tables-ask xs {ys} p q = ((λ a. (p.0 (first-hold xs ys a), q.0 (then-hold xs ys a))), λ h. all_hold (p.1 h.0) (q.1 h.1))

pub accepted-asks : {rs : List Row} {P : Type 0} → AllHold rs ↔ P → (outcome rs ≡ (Ok tt)) ↔ P
accepted-asks {rs} e = ((λ h. e.0 (accepted-holds rs h)), λ p. holds-accepted (e.1 p))

-- ---- a table after a table: the first one's refusal, or the second one's outcome
accepted-append : {xs : List Row} (ys : List Row) → AllHold xs → outcome (xs ++ ys) ≡ outcome ys
accepted-append ys none = refl
accepted-append ys (more {r = r} {rs = rs} h t) = passes r (rs ++ ys) h ∙ accepted-append ys t

pub accepted-then : (xs ys : List Row) → outcome xs ≡ (Ok tt) → outcome (xs ++ ys) ≡ outcome ys
accepted-then xs ys e = accepted-append ys (accepted-holds xs e)

broken-then : {xs : List Row} (ys : List Row) {f : Refusal} → Broken xs f → Broken (xs ++ ys) f
broken-then ys (Broken.here b) = Broken.here b
broken-then ys (Broken.later h b) = Broken.later h (broken-then ys b)

pub refused-then : (xs ys : List Row) (f : Refusal) → outcome xs ≡ Err f → outcome (xs ++ ys) ≡ Err f
refused-then xs ys f e = broken-refused (broken-then ys (refused-broken xs f e))

-- ---- the rules of a place
rule-by : (r : Rule) (rs : List Rule) (t : Bool) → r.holds ≡ t → (all_rules rs ≡ false → BrokenRule rs (first_broken rs)) → all_rules (r ∷ rs) ≡ false
    → BrokenRule (r ∷ rs) (first_broken (r ∷ rs))
unfolding all_rules first_broken
rule-by r rs true e rest h = subst (λ (c : Cause). BrokenRule (r ∷ rs) c) (rw e refl) (BrokenRule.later e (rest (rw e at h)))
rule-by r rs false e rest h = subst (λ (c : Cause). BrokenRule (r ∷ rs) c) (rw e refl) (BrokenRule.here e)

-- The number and the second place of a group's refusal are those of the first broken rule.
pub first-broken : (rs : List Rule) → all_rules rs ≡ false → BrokenRule rs (first_broken rs)
unfolding all_rules
first-broken [] h = absurd (false≢true (sym h))
first-broken (r ∷ rs) h = rule-by r rs r.holds refl (first-broken rs) h

-- ---- what is so of each refusal that a row may give is so of the one that a table gives
pub data Gives (P : Refusal → Type 0) : List Row → Type 0 where
  over : Gives P []
  each : {r : Row} {rs : List Row} → ((p : ℕ) → r.ok p ≡ false → P (r.gives p)) → Gives P rs → Gives P (r ∷ rs)

pub given : {P : Refusal → Type 0} {rs : List Row} {f : Refusal} → Gives P rs → Broken rs f → P f
given Gives.over b = elim b [ ]
given {P} (Gives.each h t) (Broken.here b) = subst P b.gives (h b.at b.broken)
given (Gives.each h t) (Broken.later k b) = given t b

pub data RulesGive (P : Cause → Type 0) : List Rule → Type 0 where
  rules-end : RulesGive P []
  each-rule : {r : Rule} {rs : List Rule} → (r.holds ≡ false → P (cause r.number r.second)) → RulesGive P rs → RulesGive P (r ∷ rs)

pub rule-given : {P : Cause → Type 0} {rs : List Rule} {c : Cause} → RulesGive P rs → BrokenRule rs c → P c
rule-given RulesGive.rules-end b = elim b [ ]
rule-given (RulesGive.each-rule h t) (BrokenRule.here e) = h e
rule-given (RulesGive.each-rule h t) (BrokenRule.later k b) = rule-given t b

-- A table after a table is broken in the first, or in the second where the first holds.
pub broken-in : (xs : List Row) {ys : List Row} {f : Refusal} → Broken (xs ++ ys) f → Broken xs f ⊎ (AllHold xs × Broken ys f)
broken-in [] b = inr (none, b)
broken-in (x ∷ xs) (Broken.here b) = inl (Broken.here b)
broken-in (x ∷ xs) (Broken.later h b) = ⊎_elim (λ c. inl (Broken.later h c)) (λ c. inr (more h c.0, c.1)) (broken-in xs b)

-- A row whose scan answered p is one test, at p.
pub scan-row : (number count p : ℕ) (good : ℕ → Bool) → p ≡ first_bad good count → outcome (single number p (leb count p) ∷ []) ≡ outcome (row number count good ∷ [])
scan-row number count p good e = go (leb_tells count p)
  where
    one : Rest (single number p (leb count p) ∷ []) (single number p (leb count p) ∷ [])
    one = no_row _

    all : Rest (row number count good ∷ []) (row number count good ∷ [])
    all = no_row _

    go : ((leb count p ≡ true) × (count ≤ p)) ⊎ ((leb count p ≡ false) × (p < count)) → outcome (single number p (leb count p) ∷ []) ≡ outcome (row number count good ∷ [])
    go (inl h) = sym (all-rows (test-holds one refl h.0)) ∙ all-rows (row-holds all refl e h.1)
    go (inr h) = sym (test-refuses one refl h.0) ∙ refuses all refl e h.1

-- ---- what a row that was passed says, for what comes after it
pub row-told : (number count : ℕ) (ok : ℕ → Bool) {o : Outcome} → o ≡ outcome (row number count ok ∷ []) → o ≡ Ok tt → (p : ℕ) → p < count → ok p ≡ true
row-told number count ok e t = (head-holds (accepted-holds _ (sym e ∙ t))).at

pub test-told : (number place : ℕ) (ok : Bool) {o : Outcome} → o ≡ outcome (single number place ok ∷ []) → o ≡ Ok tt → ok ≡ true
test-told number place ok e t = (head-holds (accepted-holds _ (sym e ∙ t))).at 0 (omega arith)
