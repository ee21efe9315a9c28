-- The number of live readings: it is there, it is one number, and it is the length of the computed list.
-- Assumes nothing.
use mathlib.Core.Path.{◌≡◌, refl, sym, ap, subst, ◌∙◌}
use mathlib.Core.List.{List, [], ◌∷◌, Memᴰ}
use Prim.Native.Nat.{ℕ, suc, ◌≤◌}
use native.Mathlib.Omega.{arith}
use lib.ListN.{length}
use Rattle.patterns.specs.declared.Pattern.{Pattern}
use Rattle.rule.specs.Rule.{Block, Reading, Before, TimesNeverFall}
use Rattle.rule.specs.Promises.{Distinct, LiveCount}
use Rattle.rule.specs.Computed.{live}
use Rattle.automaton.proofs.Ordered.{Ordered}
use Rattle.rule.proofs.LiveReadings.{live-sound, live-complete}
use Rattle.rule.proofs.LiveOrder.{live-ordered}
use Rattle.rule.proofs.Report.{live_in}
use Rattle.rule.proofs.Written.{live_written, live-after}
use Rattle.rule.proofs.OneReport.{before-asym}

-- ## A list of distinct readings that all stand in another is no longer than it

without : {r : Reading} {m : List Reading} → Memᴰ r m → List Reading
without (Memᴰ.head {xs} e) = xs
without (Memᴰ.tail {x} i) = x ∷ without i

length_without : {r : Reading} {m : List Reading} (i : Memᴰ r m) → length m ≡ suc (length (without i))
unfolding without
length_without (Memᴰ.head e) = refl
length_without (Memᴰ.tail i) = ap suc (length_without i)

mem-without :
    {r s : Reading} {m : List Reading} (i : Memᴰ r m) → Memᴰ s m → ¬ (s ≡ r) → Memᴰ s (without i)
unfolding without
mem-without (Memᴰ.head e) (Memᴰ.head d) n = absurd (n (d ∙ sym e))
mem-without (Memᴰ.head e) (Memᴰ.tail j) n = j
mem-without (Memᴰ.tail i) (Memᴰ.head d) n = Memᴰ.head d
mem-without (Memᴰ.tail i) (Memᴰ.tail j) n = Memᴰ.tail (mem-without i j n)

pub no_longer :
    (l m : List Reading) → Distinct l → ((r : Reading) → Memᴰ r l → Memᴰ r m) → length l ≤ length m
no_longer [] m d h = omega arith
no_longer (r ∷ l) m d h =
    let i = h r (Memᴰ.head refl) in
    omega (arith, length_without i, no_longer l (without i) d.1 (λ s j. mem-without i (h s (Memᴰ.tail j)) (λ e. d.0 (subst (λ t. Memᴰ t l) e j))))

ordered-distinct : (l : List Reading) → Ordered Before l → Distinct l
ordered-distinct [] h = tt
ordered-distinct (r ∷ l) h = (λ m. before-asym (h.0 r m) (h.0 r m), ordered-distinct l h.1)

module _ (p : Pattern) (B : Block) where
  pub one-count : (j m n : ℕ) → LiveCount p B j m → LiveCount p B j n → m ≡ n
  one-count j m n a b =
      omega (arith, a.size, b.size, no_longer _ _ a.distinct (λ r i. b.complete r (a.sound r i)), no_longer _ _ b.distinct (λ r i. a.complete r (b.sound r i)))

  pub count : TimesNeverFall B → (j : ℕ) → LiveCount p B j (length (live p B (suc j)))
  count mono j = record {
    readings = live p B (suc j);
    distinct = ordered-distinct (live p B (suc j)) (live-ordered p B (suc j));
    sound = λ r m. let l = live-sound p B (suc j) m in (live_written p B mono r j (live_in p B (suc j) r l)).0 l;
    complete = λ r l. live-complete p B (suc j) r (live-after p B mono r j l);
    size = refl;
  }
