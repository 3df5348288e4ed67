pub mod RemoveIfFolded
