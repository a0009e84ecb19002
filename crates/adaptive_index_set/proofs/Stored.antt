-- How a sound set's members are stored, by what its header says. Assumes nothing.
use Rattle.std.proofs.Common.{◌≡◌, ℕ, ◌≤◌, true, List, length, take, drop, refl, sym, arith}
use lib.Seq.{length-take-le}
use borrow.Author.Tests.{eq-eqb, ne_eqb, le-leb, lt-leb}
use Rattle.words.specs.Sets.{Ascending}
use Rattle.words.specs.Words as words
use Rattle.words.specs.Words.{zeros}
use Rattle.adaptive_rules.specs.States.{narrow, wide, sparse, members}
use Rattle.adaptive_rules.specs.Bytes.{view, Sound}
use Rattle.adaptive_rules.proofs.ByteLaws as shapes
use Rattle.adaptive_index_set.specs.declared.Header.{Header}
use Rattle.adaptive_index_set.specs.declared.storage.Storage.{Storage}
use Rattle.adaptive_index_set.specs.declared.storage.Storage.TheVariants.{Narrow, Wide, Sparse}
use Rattle.adaptive_index_set.specs.Contract.{bytes_of}
use Rattle.adaptive_index_set.specs.Steps.{storage_of}

module _ (h : Header) (ws ks : List ℕ) where
  pub record InNarrow (p : ℕ) : Type 0 where
    pub view : view (bytes_of h ws ks) ≡ narrow p (words.members ws)
    pub low : p ≤ 32
    pub past : zeros (drop p ws) ≡ true
    pub keys : zeros ks ≡ true

  pub record InWide (p n : ℕ) : Type 0 where
    pub view : view (bytes_of h ws ks) ≡ wide (words.members ws)
    pub count : n ≡ length (words.members ws)
    pub past : zeros (drop p ws) ≡ true
    pub keys : zeros ks ≡ true

  pub record InSparse (n : ℕ) : Type 0 where
    pub view : view (bytes_of h ws ks) ≡ sparse (take n ks)
    pub count : n ≡ length (take n ks)
    pub ascending : Ascending (take n ks)
    pub past : zeros (drop n ks) ≡ true
    pub words : zeros ws ≡ true

  -- what a sound set holds where its header says so
  abbrev pub Stored : Storage → Type 0
  Stored (Narrow p) = InNarrow p
  Stored (Wide p n) = InWide p n
  Stored (Sparse n) = InSparse n

  pub stored : Sound (bytes_of h ws ks) → {s t : Storage} → s ≡ storage_of h → s ≡ t → Stored t
  unfolding bytes_of storage_of
  stored sound e d = rw (← d, e) (go (shapes.sound-is (bytes_of h ws ks) sound.sound))
    where
      go : shapes.Shape (bytes_of h ws ks) → Stored (storage_of h)
      go (shapes.is-narrow x) =
          rw (eq-eqb _ _ x.mode, le-leb _ _ x.low) (record { view = x.view; low = x.low; past = x.past; keys = x.keys })
      go (shapes.is_wide x) =
          rw (eq-eqb _ _ x.mode, lt-leb _ _ x.high)
          (record {
            view = x.view;
            count = rw x.view at (shapes.stored-count (bytes_of h ws ks) sound.sound (rw x.view));
            past = x.past;
            keys = x.keys;
          })
      go (shapes.is-sparse x) =
          rw (ne_eqb h.mode 0 (λ z. omega (arith, x.mode)))
          (record { view = x.view; count = sym (length-take-le _ _ x.room); ascending = x.ascending; past = x.past; words = x.words })

  -- a set that is not sparse has its members in words
  pub members_in_words : Sound (bytes_of h ws ks) → {s : Storage} → s ≡ storage_of h → ((n : ℕ) → s ≡ Sparse n → ⊥)
      → members (view (bytes_of h ws ks)) ≡ words.members ws
  members_in_words sound {s = Narrow p} e d = rw (stored sound e refl).view
  members_in_words sound {s = Wide p n} e d = rw (stored sound e refl).view
  members_in_words sound {s = Sparse n} e d = absurd (d n refl)
