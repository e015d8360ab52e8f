-- The number, the cause and the line of each refusal. Assumes nothing.
use Rattle.std.specs.Prelude.{◌≡◌, ℕ, List, ◌++◌, Ok, Err, codes, decimal, Result}
use Rattle.answer.specs.declared.Refusal.{Refusal}
use Rattle.answer.specs.declared.Refusal.TheVariants.{Channels, Uplink, Offsets, Bitmap, Intervals, Levels, Start, Lent, Unfit, Back, Future, Unset, Outside, Resource, Code, Riv, Padding, Rsrp, Sent, OtherRecord, Full, Readings, OtherReadings, Length, Interval, Turns, Priority, Times, NoCandidate, TooFew, NoReport, NoPlace, Limit, NotOut, Spent, NotNow, Occupied, Unknown, Short, Order, TooWide}

-- the number of each refusal
abbrev pub number : Refusal → ℕ
number Channels = 10
number Uplink = 11
number Offsets = 12
number Bitmap = 13
number Intervals = 14
number Levels = 15
number Start = 16
number Lent = 17
number Unfit = 18
number Back = 20
number Future = 21
number Unset = 22
number Outside = 23
number Resource = 24
number Code = 25
number Riv = 26
number Padding = 27
number Rsrp = 28
number Sent = 29
number OtherRecord = 30
number Full = 31
number Readings = 32
number OtherReadings = 33
number Length = 34
number Interval = 35
number Turns = 36
number Priority = 37
number Times = 38
number NoCandidate = 40
number TooFew = 41
number NoReport = 42
number NoPlace = 43
number Limit = 44
number NotOut = 45
number Spent = 46
number NotNow = 47
number Occupied = 48
number Unknown = 50
number Short = 51
number Order = 52
number TooWide = 53

-- what a call answers: 0 where it is done, else the number of the refusal
abbrev pub answered : {A : Type 0} → Result A Refusal → ℕ
answered (Ok a) = 0
answered (Err e) = number e

-- no two refusals have one number
abbrev pub Distinct : Type 0
Distinct = (a b : Refusal) → number a ≡ number b → a ≡ b

-- the bytes of each cause
abbrev pub cause : Refusal → List ℕ
cause Channels = codes "the number of sub-channels is not from 1 to 20"
cause Uplink = codes "the uplink code is above 7"
cause Offsets = codes "there are more than three sync offsets, or one is repeated, 160 or more, not on an uplink position, or unused and not zero"
cause Bitmap = codes "the bitmap's length is not 10, 16, 20, 30, 40, 50, 60 or 100, no bit is one, or a bit past the length is"
cause Intervals = codes "the interval mask is zero or above 4095"
cause Levels = codes "a threshold level is above 66"
cause Start = codes "the start is not from 20480 to 2^40"
cause Lent = codes "the lent memory is too small for the pool"
cause Unfit = codes "the memory is not empty, made for another pool, or past the start"
cause Back = codes "the time goes back, or past 2^40"
cause Future = codes "the subframe is still to come"
cause Unset = codes "the subframe is not in the set that a pool is made from"
cause Outside = codes "the index is outside the memory"
cause Resource = codes "the resource is not below the number of sub-channels"
cause Code = codes "the reservation code is above 12"
cause Riv = codes "the RIV names no length and start, or the record leaves the pool"
cause Padding = codes "the bits behind the record are not zero"
cause Rsrp = codes "the RSRP is not from -160.0 to 0.0 dBm"
cause Sent = codes "the unit sent in that subframe"
cause OtherRecord = codes "another record is held there"
cause Full = codes "no place for a record is free"
cause Readings = codes "the readings are not one for each sub-channel, or one is above 4,000,000,000"
cause OtherReadings = codes "other readings are held there"
cause Length = codes "the length is not from 1 to the number of sub-channels"
cause Interval = codes "the interval code is not from 1 to 12, or the pool does not allow it"
cause Turns = codes "the number of turns is not from 1 to 750"
cause Priority = codes "the priority is above 7"
cause Times = codes "T1 is not from 1 to 4, or T2 is not from 20 to 100"
cause NoCandidate = codes "the selection window has no candidate"
cause TooFew = codes "no raise leaves a fifth of the candidates"
cause NoReport = codes "no report was made at this subframe"
cause NoPlace = codes "no such place is still marked"
cause Limit = codes "the turns ever granted would pass 2^40"
cause NotOut = codes "the unit has fewer turns out than the grant"
cause Spent = codes "the grant has no turn left"
cause NotNow = codes "now is not the subframe of the turn"
cause Occupied = codes "the subframe is not blank, or holds a record"
cause Unknown = codes "the command byte is unknown"
cause Short = codes "the operands are cut short"
cause Order = codes "no pool is accepted yet, or one is already"
cause TooWide = codes "the bench takes at most 8 sub-channels"

-- the bytes of a refusal's line: its number, a colon, a blank and its cause
abbrev pub line : Refusal → List ℕ
line e = decimal (number e) ++ (codes ": " ++ cause e)
