pub mod EarlierNeighbors
pub mod MediumAddresses
pub mod NotesBySubject
pub mod UnchangedFields
pub mod SolicitationCount
pub mod ChosenSources
