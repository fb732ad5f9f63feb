-- Line feeds, counted as the items of an iterator.
use Rattle.std.proofs.Common.{◌≡◌, ℕ, List, [], ◌∷◌, ◌∙◌}
use Rattle.std.proofs.lemmas.Iterator.{YieldsList}
use Rattle.memchr.specs.Find.{TakesFirst}

-- an iterator over places gives all of them
pub gives_places : (places it : List ℕ) → places ≡ it → YieldsList TakesFirst (λ x. x) it places
gives_places [] it e = record { runs = λ x j p. (let clash : [] ≡ x ∷ j = e ∙ p in cc) }
gives_places (y ∷ places) it e = record {
  runs = (
    λ j p. (let clash : y ∷ places ≡ [] = e ∙ p.0 in cc),
    λ x j p. (let same : y ∷ places ≡ x ∷ j = e ∙ p in (cc, (gives_places places j (cc)).runs)),
  );
}
