-- A machine that is driven over what a reader has left: a turn, and turns that are left.
-- Assumes nothing.
use Rattle.std.proofs.Common.{◌≡◌, ℕ, zero, suc, List, false, None, Some, IfSome, take, drop, refl, sym, ap, ◌∙◌, subst}
use Rattle.std.specs.Prelude.{⊤}
use Rattle.std.specs.declared.option.Option.{Option}
use Rattle.fields.specs.Stages.{going}
use Rattle.fields.specs.File.{driven}
use Rattle.fields.specs.Machine.{Reader, wants, fed}
use Rattle.fields.proofs.Machine.{wants_none, fed_none}
use Rattle.drive.specs.Unread.{unread, Drives}

module _ {F : Type 0} (r : Reader F) where
  -- all turns from s over what was known do what those that are left do from t over what is known, and leave as much
  abbrev pub Left : ℕ → ℕ → F → F → Option (List ℕ) → Option (List ℕ) → Type 0
  Left all n s t None b = ⊤
  Left all n s t (Some xs) None = ⊥
  Left all n s t (Some xs) (Some ys) =
      (driven (wants r) (fed r) n t ys ≡ driven (wants r) (fed r) all s xs)
      × (unread (wants r) (fed r) n t ys ≡ unread (wants r) (fed r) all s xs)

  pub left_all : (n : ℕ) (s : F) (a : Option (List ℕ)) → Left n n s s a a
  left_all n s None = tt
  left_all n s (Some xs) = (refl, refl)

  pub left_more :
      (all n : ℕ) {m : ℕ} (s t u : F) (a b c : Option (List ℕ))
      → m ≡ suc n
      → Left all m s t a b
      → IfSome b (λ ys. (u ≡ fed r t (take (wants r t) ys)) × (c ≡ Some (drop (wants r t) ys)))
      → Left all n s u a c
  unfolding driven unread
  left_more all n s t u None b c e l f = tt
  left_more all n s t u (Some xs) None c e l f = absurd l
  left_more all n s t u (Some xs) (Some ys) c e l f =
      subst (Left all n s u (Some xs)) (sym f.1) (
        ap (λ (v : F). driven (wants r) (fed r) n v (drop (wants r t) ys)) f.0
            ∙ ap (λ (k : ℕ). driven (wants r) (fed r) k t ys) (sym e)
            ∙ l.0,
        ap (λ (v : F). unread (wants r) (fed r) n v (drop (wants r t) ys)) f.0
            ∙ ap (λ (k : ℕ). unread (wants r) (fed r) k t ys) (sym e)
            ∙ l.1,
      )

  -- a machine that has ended stays
  ended : (s : F) → going (r.stage s) ≡ false → (n : ℕ) (bytes : List ℕ) → s ≡ driven (wants r) (fed r) n s bytes
  unfolding driven
  ended s g zero bytes = refl
  ended s g (suc n) bytes =
      ended s g n (drop (wants r s) bytes)
      ∙ ap (λ (t : F). driven (wants r) (fed r) n t (drop (wants r s) bytes)) (fed_none r s g (take (wants r s) bytes))

  -- and takes nothing more
  spared : (s : F) → going (r.stage s) ≡ false → (n : ℕ) (bytes : List ℕ) → bytes ≡ unread (wants r) (fed r) n s bytes
  unfolding unread
  spared s g zero bytes = refl
  spared s g (suc n) bytes =
      spared s g n bytes
      ∙ ap (λ (w : ℕ). unread (wants r) (fed r) n s (drop w bytes)) (wants_none r s g)
      ∙ ap (λ (t : F). unread (wants r) (fed r) n t (drop (wants r s) bytes)) (fed_none r s g (take (wants r s) bytes))

  pub left_ended :
      (all n : ℕ) (s t : F) (a b : Option (List ℕ))
      → going (r.stage t) ≡ false
      → Left all n s t a b
      → IfSome a (λ xs. Drives r all s xs t b)
  left_ended all n s t None b g l = tt
  left_ended all n s t (Some xs) None g l = absurd l
  left_ended all n s t (Some xs) (Some ys) g l = record { state = ended t g n ys ∙ l.0; left = ap Some (spared t g n ys ∙ l.1) }

  pub left_none :
      (all n : ℕ) (s t : F) (a b : Option (List ℕ))
      → n ≡ 0
      → Left all n s t a b
      → IfSome a (λ xs. Drives r all s xs t b)
  unfolding driven unread
  left_none all n s t None b e l = tt
  left_none all n s t (Some xs) None e l = absurd l
  left_none all n s t (Some xs) (Some ys) e l =
      record {
        state = ap (λ (k : ℕ). driven (wants r) (fed r) k t ys) (sym e) ∙ l.0;
        left = ap Some (ap (λ (k : ℕ). unread (wants r) (fed r) k t ys) (sym e) ∙ l.1);
      }
