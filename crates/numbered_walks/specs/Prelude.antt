-- What is defined here, under one name for those who import it.
pub use Rattle.numbered_walks.specs.Agreements.{AreOwnerRows, IsAgreement, IsStanding, component_at, is_agreed, offer_count, offers_of, owner_count, owner_marks, owners_of}
pub use Rattle.numbered_walks.specs.Blocks.{AreBlockCounts}
pub use Rattle.numbered_walks.specs.Draws.{IsDrawn, label, takes_part}
pub use Rattle.numbered_walks.specs.Marks.{bit, mark_count, marked, places_from}
pub use Rattle.numbered_walks.specs.Numbered.{AllCan, AllDo, AllDraw, Can, Goes, Has, Numbered, OneCan, OwnsItsSteps, Takes, first_terms, has_owner}
pub use Rattle.numbered_walks.specs.Numbers.{first_draw, next_number, place_among}
pub use Rattle.numbered_walks.specs.Options.{AreOptions, IsBefore}
pub use Rattle.numbered_walks.specs.Rows.{AreSilentRows, AreStepRows, targets}
pub use Rattle.numbered_walks.specs.Steps.{AllGo, AllGoOn, Does, GoesOn, IsAtEnd, IsStep, WalksOn, number_after, options}
pub use Rattle.numbered_walks.specs.Walks.{Chooses, HasNone, IsWalk, IsWalkOf}
