-- Lists with an element put in at a place, and with the one at a place taken out. Assumes nothing.
use Rattle.std.specs.Prelude.{List, [], ◌∷◌, ℕ, zero, suc}

-- x stands at place p; what stood there and behind it stands one place further
unfoldable pub insert_at : {A : Type 0} → ℕ → A → List A → List A
insert_at zero x l = x ∷ l
insert_at (suc p) x [] = x ∷ []
insert_at (suc p) x (y ∷ l) = y ∷ insert_at p x l

-- without the element at place p; what stood behind it stands one place nearer
unfoldable pub remove_at : {A : Type 0} → ℕ → List A → List A
remove_at p [] = []
remove_at zero (y ∷ l) = l
remove_at (suc p) (y ∷ l) = y ∷ remove_at p l
