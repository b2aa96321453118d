mod Adding
mod Books
