pub mod Courses
mod Fronts
mod Fuses
mod Fusing
mod Pieces
mod RoundCalls
pub mod Fit
mod RoundTexts
mod Alone
mod Lasts
mod Lasting
mod StoreCalls
mod OnlyRead
mod Standing
mod Comparisons
pub mod Surviving
pub mod Survived
mod Oks
mod Within
pub mod Keeping
mod Serves
mod Summarized
mod Generated
mod LastLines
mod Cleaned
mod Cleanings
mod Unpoked
mod Failing
mod Rising
mod LoadOwn
mod Loads
mod Completing
mod Straying
mod Pokings
mod Sums
mod Marks
mod Telling
mod Poked
mod Unharmed
pub mod Unstrayed
mod Honest
mod Made
mod Going
mod Shown
mod Verifying
pub mod Durable
pub mod Acknowledged
