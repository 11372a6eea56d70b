-- Laws of the close, by subject.
pub mod Indexed
pub mod Vacancies
pub mod Vacant
