-- The number of a refusal leads back to it and to its cause. Assumes nothing.
use Rattle.std.proofs.Common.{◌≡◌, ℕ, ◌-◌, List, [], ◌∷◌, map, get_or, Some, None, Option, sym, refl, ap, ◌∙◌, Bor}
use lib.ListN.{get_or-map}
use Rattle.answer.specs.Numbers.{number, cause, Distinct}
use Rattle.answer.specs.declared.Refusal.{Refusal}
use Rattle.answer.specs.declared.Refusal.TheVariants.{Channels, Uplink, Offsets, Bitmap, Intervals, Levels, Start, Lent, Unfit, Back, Future, Unset, Outside, Resource, Code, Riv, Padding, Rsrp, Sent, OtherRecord, Full, Readings, OtherReadings, Length, Interval, Turns, Priority, Times, NoCandidate, TooFew, NoReport, NoPlace, Limit, NotOut, Spent, NotNow, Occupied, Unknown, Short, Order, TooWide}

-- the refusals by their numbers, from 10 on
abbrev pub table : List (Option Refusal)
table = Some Channels ∷ Some Uplink ∷ Some Offsets ∷ Some Bitmap ∷ Some Intervals ∷ Some Levels ∷ Some Start ∷ Some Lent ∷ Some Unfit ∷ None ∷ Some Back ∷ Some Future ∷ Some Unset ∷ Some Outside ∷ Some Resource ∷ Some Code ∷ Some Riv ∷ Some Padding ∷ Some Rsrp ∷ Some Sent ∷ Some OtherRecord ∷ Some Full ∷ Some Readings ∷ Some OtherReadings ∷ Some Length ∷ Some Interval ∷ Some Turns ∷ Some Priority ∷ Some Times ∷ None ∷ Some NoCandidate ∷ Some TooFew ∷ Some NoReport ∷ Some NoPlace ∷ Some Limit ∷ Some NotOut ∷ Some Spent ∷ Some NotNow ∷ Some Occupied ∷ None ∷ Some Unknown ∷ Some Short ∷ Some Order ∷ Some TooWide ∷ []

-- what a list in the order of the table has at the number of a refusal
pub found : {A : Type 0} (f : Option Refusal → A) (z : A) (e : Refusal) → get_or (map f table) (number e - 10) z ≡ f (Some e)
found f z Channels = refl
found f z Uplink = refl
found f z Offsets = refl
found f z Bitmap = refl
found f z Intervals = refl
found f z Levels = refl
found f z Start = refl
found f z Lent = refl
found f z Unfit = refl
found f z Back = refl
found f z Future = refl
found f z Unset = refl
found f z Outside = refl
found f z Resource = refl
found f z Code = refl
found f z Riv = refl
found f z Padding = refl
found f z Rsrp = refl
found f z Sent = refl
found f z OtherRecord = refl
found f z Full = refl
found f z Readings = refl
found f z OtherReadings = refl
found f z Length = refl
found f z Interval = refl
found f z Turns = refl
found f z Priority = refl
found f z Times = refl
found f z NoCandidate = refl
found f z TooFew = refl
found f z NoReport = refl
found f z NoPlace = refl
found f z Limit = refl
found f z NotOut = refl
found f z Spent = refl
found f z NotNow = refl
found f z Occupied = refl
found f z Unknown = refl
found f z Short = refl
found f z Order = refl
found f z TooWide = refl

abbrev named : ℕ → Option Refusal
named n = get_or (map (λ o. o) table) (n - 10) None

pub distinct : Distinct
distinct a b e = let same : Some a ≡ Some b = sym (found (λ o. o) None a) ∙ ap named e ∙ found (λ o. o) None b in cc

abbrev text : Option Refusal → List ℕ
text None = []
text (Some e) = cause e

-- texts in the order of the table have the cause of a refusal at its number
pub caused : (xs : List (Bor (List ℕ))) (z : Bor (List ℕ)) (n : ℕ) (e : Refusal) → n ≡ number e → map (λ x. x.now) xs ≡ map text table → (get_or xs (n - 10) z).now ≡ cause e
caused xs z n e h t =
    ap (λ (k : ℕ). (get_or xs (k - 10) z).now) h
    ∙ sym (get_or-map (λ x. x.now) xs (number e - 10) z)
    ∙ ap (λ (l : List (List ℕ)). get_or l (number e - 10) z.now) t
    ∙ found text z.now e
